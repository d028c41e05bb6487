-- From lists of numbers to bytes: at most one codeword is near.
-- Assumes nothing.
use mathlib.Core.Path.{◌≡◌, refl, sym, ap, ap₂, subst, ◌∙◌}
use mathlib.Core.Bool.{Bool, true, false, ◌||◌}
use mathlib.Core.List.{List, [], ◌∷◌, map}
use Prim.Native.Nat.{ℕ, zero, suc, ◌+◌, ◌*◌, ◌-◌, ◌<◌, ◌≤◌}
use native.Mathlib.Nat.{add-suc, suc-add, add-zero, zero-add}
use native.Mathlib.Omega.{arith}
use lib.Dec.{eqb, eqb-suc-suc}
use lib.Bits.{bit_xor, xor_self}
use lib.ListN.{length, get_or}
use lib.Seq.{ext_get_or}
use borrow.Author.Tests.{ne_eqb, eqb-true}
use Rattle.bits.specs.Bit.{Bytes}
use Rattle.bits.proofs.Belows.{below_rest}
use Rattle.field_rules.specs.Field.{product, power, times_x}
use Rattle.field_rules.proofs.Products.{power_add}
use Rattle.tail_algebra.proofs.Fields.{same, zero-⊗, zero-⊕, ⊕-zero, add-⊗}
use Rattle.bits.specs.Alls.{All}
use Rattle.tail_algebra.proofs.Vandermonde.{pow, sum_eq, sum_add, moment}
use Rattle.tail_algebra.proofs.Word.{places, horner, node, horner_moment, supp, cons_if, errors, erased, unless, tick, unique}
use Rattle.tail_algebra.proofs.System.{all_at}
use Rattle.tail_algebra.proofs.Bytes.{minimum_seven, Byte, byte_eq, gf, X, distinct, zero_lt}
use Rattle.tail_rules.specs.Code.{value, syndrome, Codeword, among, one_if, wrong_from, wrong, Near}

abbrev pub lift : (t : List ℕ) → Bytes t → List Byte
lift [] h = []
lift (b ∷ bs) h = (b, h.at 0) ∷ lift bs (below_rest h)

abbrev pub 𝟘 : Byte
𝟘 = (0, zero_lt)

pub length_lift : (t : List ℕ) (h : Bytes t) → length (lift t h) ≡ length t
length_lift [] h = refl
length_lift (b ∷ bs) h = ap suc (length_lift bs (below_rest h))

pub get_d_lift : (t : List ℕ) (h : Bytes t) (p : ℕ) → (get_or (lift t h) p 𝟘).0 ≡ get_or t p 0
get_d_lift [] h p = refl
get_d_lift (b ∷ bs) h zero = refl
get_d_lift (b ∷ bs) h (suc p) = get_d_lift bs (below_rest h) p

pub value_lift : (t : List ℕ) (h : Bytes t) (v x : Byte) → (horner gf v (lift t h) x).0 ≡ value v.0 t x.0
unfolding horner value
value_lift [] h v x = refl
value_lift (b ∷ bs) h v x = value_lift bs (below_rest h) (gf.◌⊕◌ (gf.◌⊗◌ v x) (b, h.at 0)) x

pub two : Byte
two = (2, omega arith)

pub pow_power : (k : ℕ) → (pow gf two k).0 ≡ power k
unfolding pow two power times_x
pow_power zero = refl
pow_power (suc k) = ap (λ (x : ℕ). product 2 x) (pow_power k) ∙ power_add 1 k ∙ ap (λ (x : ℕ). power x) (one_more k)
  where
    one_more : (k : ℕ) → 1 + k ≡ suc k
    one_more k = omega arith

place_eq : (p : ℕ) → 14 - suc p ≡ 13 - p
place_eq p = omega arith

pub node_X : (p : ℕ) → node gf two 14 p ≡ X p
node_X p = byte_eq (pow_power (14 - suc p) ∙ ap (λ (x : ℕ). power x) (place_eq p))

unfoldable pub at : (t : List ℕ) → Bytes t → ℕ → Byte
at t h p = get_or (lift t h) p 𝟘

-- the syndromes as moments
pub syndrome_moment : (c : List ℕ) (h : Bytes c) → length c ≡ 14 → (i : ℕ) → (moment gf X (places 14) (at c h) i).0 ≡ syndrome c i
unfolding at syndrome
syndrome_moment c h long i =
    ap (λ (x : Byte). x.0)
    (sum_eq gf (places 14) _ _ (λ p. ap (λ (x : Byte). gf.◌⊗◌ (get_or (lift c h) p 𝟘) (pow gf x i)) (sym (node_X p)))
    ∙ subst (λ (n : ℕ). moment gf (node gf two n) (places n) (λ p. get_or (lift c h) p 𝟘) i ≡ horner gf 𝟘 (lift c h) (pow gf two i)) (length_lift c h ∙ long)
    (sym
    (horner_moment gf two (lift c h) i 𝟘
    ∙ ap (λ (x : Byte). gf.◌⊕◌ x (moment gf (node gf two (length (lift c h))) (places (length (lift c h))) (λ p. get_or (lift c h) p 𝟘) i))
    (zero-⊗ gf (pow gf (pow gf two i) (length (lift c h))))
    ∙ zero-⊕ gf _)))
    ∙ value_lift c h 𝟘 (pow gf two i) ∙ ap (λ (x : ℕ). value 0 c x) (pow_power i)

-- a codeword's are zero
pub moments : (c : List ℕ) (v : Codeword c) (i : ℕ) → i < 6 → moment gf X (places 14) (at c v.bytes) i ≡ 𝟘
moments c v i l = byte_eq (syndrome_moment c v.bytes v.long i ∙ v.zero_at i l)

-- what a codeword adds to a word does not change its syndromes
pub difference_moment : (t c : List ℕ) (ht : Bytes t) → length t ≡ 14 → (v : Codeword c) (k : ℕ) → k < 6
    → (moment gf X (places 14) (λ p. gf.◌⊕◌ (at t ht p) (at c v.bytes p)) k).0 ≡ syndrome t k
difference_moment t c ht lt v k l =
    ap (λ (x : Byte). x.0)
    (sum_eq gf (places 14) _ _ (λ p. add-⊗ gf (at t ht p) (at c v.bytes p) (pow gf (X p) k))
    ∙ sum_add gf (places 14) (λ p. gf.◌⊗◌ (at t ht p) (pow gf (X p) k)) (λ p. gf.◌⊗◌ (at c v.bytes p) (pow gf (X p) k))
    ∙ ap (λ (x : Byte). gf.◌⊕◌ (moment gf X (places 14) (at t ht) k) x) (moments c v k l)
    ∙ ⊕-zero gf (moment gf X (places 14) (at t ht) k))
    ∙ syndrome_moment t ht lt k

-- ---- the counts

supp_suc : (w : ℕ → Byte) (ps : List ℕ) → length (supp gf X w (map suc ps)) ≡ length (supp gf X (λ p. w (suc p)) ps)
supp_suc w [] = refl
supp_suc w (p ∷ ps) = go (gf.zero? (w (suc p))) (supp_suc w ps)
  where
    go : (q : Dec (w (suc p) ≡ 𝟘)) → length (supp gf X w (map suc ps)) ≡ length (supp gf X (λ p. w (suc p)) ps)
        → length (cons_if gf X (suc p) q (supp gf X w (map suc ps))) ≡ length (cons_if gf X p q (supp gf X (λ p. w (suc p)) ps))
    go (yes e) h = h
    go (no e) h = ap suc h

supp_ext : (u v : ℕ → Byte) → ((p : ℕ) → u p ≡ v p) → (ps : List ℕ) → length (supp gf X u ps) ≡ length (supp gf X v ps)
supp_ext u v h [] = refl
supp_ext u v h (p ∷ ps) = go (gf.zero? (u p)) (gf.zero? (v p)) (supp_ext u v h ps)
  where
    go : (q : Dec (u p ≡ 𝟘)) (r : Dec (v p ≡ 𝟘)) → length (supp gf X u ps) ≡ length (supp gf X v ps)
        → length (cons_if gf X p q (supp gf X u ps)) ≡ length (cons_if gf X p r (supp gf X v ps))
    go (yes q) (yes r) g = g
    go (yes q) (no r) g = absurd (r (sym (h p) ∙ q))
    go (no q) (yes r) g = absurd (q (h p ∙ r))
    go (no q) (no r) g = ap suc g

module _ (es : List ℕ) where
  mask : ℕ → (t c : List ℕ) → Bytes t → Bytes c → ℕ → Byte
  mask i t c ht hc p = unless gf X (among (i + p) es) (gf.◌⊕◌ (get_or (lift t ht) p 𝟘) (get_or (lift c hc) p 𝟘))

  head_count : (i x y n m : ℕ) (hx : x < 256) (hy : y < 256) (a : Bool) (b : Bool) → (eqb x y ≡ b) → n ≤ m
      → (q : Dec (unless gf X a (gf.◌⊕◌ (x, hx) (y, hy)) ≡ 𝟘)) (ps : List ℕ) → length ps ≡ n
      → length (cons_if gf X 0 q ps) ≤ one_if a b m
  head_count i x y n m hx hy true b e l (yes q) ps h = omega (arith, h)
  head_count i x y n m hx hy true b e l (no q) ps h = absurd (q refl)
  head_count i x y n m hx hy false true e l (yes q) ps h = omega (arith, h)
  head_count i x y n m hx hy false false e l (yes q) ps h = omega (arith, h)
  head_count i x y n m hx hy false true e l (no q) ps h =
      absurd (q (byte_eq (ap (λ (z : ℕ). bit_xor z y) (eqb-true x y e) ∙ xor_self y)))
  head_count i x y n m hx hy false false e l (no q) ps h = omega (arith, h)

  count : (i : ℕ) (t c : List ℕ) (ht : Bytes t) (hc : Bytes c) → length t ≡ length c
      → length (supp gf X (mask i t c ht hc) (places (length t))) ≤ wrong_from i es t c
  unfolding mask
  count i [] c ht hc e = omega arith
  count i (x ∷ xs) [] ht hc e = absurd (omega (arith, e))
  count i (x ∷ xs) (y ∷ ys) ht hc e =
      subst (λ (j : ℕ). length (cons_if gf X 0 (gf.zero? (unless gf X (among (i + 0) es) (gf.◌⊕◌ (x, ht.at 0) (y, hc.at 0)))) (supp gf X (mask i (x ∷ xs) (y ∷ ys) ht hc) (map suc (places (length xs)))))
      ≤ one_if (among j es) (eqb x y) (wrong_from (suc i) es xs ys)) (add-zero i)
      (head_count i x y _ _ (ht.at 0) (hc.at 0) (among (i + 0) es) (eqb x y) refl (count (suc i) xs ys (below_rest ht) (below_rest hc) (down e))
      (gf.zero? (unless gf X (among (i + 0) es) (gf.◌⊕◌ (x, ht.at 0) (y, hc.at 0)))) (supp gf X (mask i (x ∷ xs) (y ∷ ys) ht hc) (map suc (places (length xs))))
      (supp_suc (mask i (x ∷ xs) (y ∷ ys) ht hc) (places (length xs))
      ∙ supp_ext _ _ (λ p. ap (λ (j : ℕ). unless gf X (among j es) (gf.◌⊕◌ (get_or (lift xs (below_rest ht)) p 𝟘) (get_or (lift ys (below_rest hc)) p 𝟘))) (add-suc i p ∙ sym (suc-add i p))) (places (length xs))))
    where
      down : suc (length xs) ≡ suc (length ys) → length xs ≡ length ys
      down e = omega arith

-- as many places are erased as are listed, or fewer

erased_or : (e : ℕ) (es ps : List ℕ) → erased gf X (λ p. among p (e ∷ es)) ps ≤ erased gf X (λ p. eqb p e) ps + erased gf X (λ p. among p es) ps
erased_or e es [] = omega arith
erased_or e es (p ∷ ps) = go (eqb p e) (among p es) (erased_or e es ps)
  where
    go : (a b : Bool) → erased gf X (λ p. among p (e ∷ es)) ps ≤ erased gf X (λ p. eqb p e) ps + erased gf X (λ p. among p es) ps
        → tick gf X (a || b) (erased gf X (λ p. among p (e ∷ es)) ps)
        ≤ tick gf X a (erased gf X (λ p. eqb p e) ps) + tick gf X b (erased gf X (λ p. among p es) ps)
    go true true h = omega arith
    go true false h = omega arith
    go false true h = omega arith
    go false false h = omega arith

pub erased_suc : (E : ℕ → Bool) (ps : List ℕ) → erased gf X E (map suc ps) ≡ erased gf X (λ p. E (suc p)) ps
erased_suc E [] = refl
erased_suc E (p ∷ ps) = ap (λ (n : ℕ). tick gf X (E (suc p)) n) (erased_suc E ps)

pub erased_none : (E : ℕ → Bool) → ((p : ℕ) → E p ≡ false) → (ps : List ℕ) → erased gf X E ps ≡ 0
erased_none E h [] = refl
erased_none E h (p ∷ ps) = ap₂ (λ (b : Bool) (n : ℕ). tick gf X b n) (h p) (erased_none E h ps)

pub erased_ext : (E G : ℕ → Bool) → ((p : ℕ) → E p ≡ G p) → (ps : List ℕ) → erased gf X E ps ≡ erased gf X G ps
erased_ext E G h [] = refl
erased_ext E G h (p ∷ ps) = ap₂ (λ (b : Bool) (n : ℕ). tick gf X b n) (h p) (erased_ext E G h ps)

erased_one : (n e : ℕ) → erased gf X (λ p. eqb p e) (places n) ≤ 1
erased_one zero e = omega arith
erased_one (suc n) zero =
    subst (λ (k : ℕ). tick gf X (eqb 0 0) k ≤ 1)
    (sym (erased_suc (λ p. eqb p 0) (places n) ∙ erased_none (λ p. eqb (suc p) 0) (λ p. ne_eqb (suc p) 0 (λ q. absurd (omega (arith, q)))) (places n)))
    (omega arith)
erased_one (suc n) (suc e) =
    subst (λ (b : Bool). tick gf X b (erased gf X (λ p. eqb p (suc e)) (map suc (places n))) ≤ 1) (sym (ne_eqb 0 (suc e) (λ q. absurd (omega (arith, q)))))
    (subst (λ (k : ℕ). k ≤ 1)
    (sym (erased_suc (λ p. eqb p (suc e)) (places n) ∙ erased_ext (λ p. eqb (suc p) (suc e)) (λ p. eqb p e) (λ p. eqb-suc-suc p e) (places n)))
    (erased_one n e))

pub few : (n : ℕ) (es : List ℕ) → erased gf X (λ p. among p es) (places n) ≤ length es
few n [] = subst (λ (k : ℕ). k ≤ 0) (sym (erased_none (λ p. false) (λ p. refl) (places n))) (omega arith)
few n (e ∷ es) = omega (arith, erased_or e es (places n), erased_one n e, few n es)

pub wrong_bound : (es t c : List ℕ) (ht : Bytes t) (hc : Bytes c) → length t ≡ length c → (n : ℕ) → length t ≡ n
    → errors gf X (λ p. among p es) (λ p. gf.◌⊕◌ (at t ht p) (at c hc p)) (places n) ≤ wrong es t c
unfolding at mask
wrong_bound es t c ht hc e n l =
    subst (λ (k : ℕ). errors gf X (λ p. among p es) (λ p. gf.◌⊕◌ (at t ht p) (at c hc p)) (places k) ≤ wrong es t c) l
    (subst (λ (k : ℕ). k ≤ wrong es t c)
    (supp_ext _ _ (λ p. ap (λ (j : ℕ). unless gf X (among j es) (gf.◌⊕◌ (get_or (lift t ht) p 𝟘) (get_or (lift c hc) p 𝟘))) (zero-add p)) (places (length t)))
    (count es 0 t c ht hc e))

within : (a b w l : ℕ) → a ≤ w → b ≤ l → 2 * w + l ≤ 6 → 2 * a + b ≤ 6
within a b w l h g k = omega arith

-- ---- at most one codeword is near
pub near_one : (es t c d : List ℕ) → Bytes t → length t ≡ 14 → Near es t c → Near es t d → c ≡ d
unfolding at
near_one es t c d ht lt vc vd =
    ext_get_or 0 c d (vc.code.long ∙ sym vd.code.long)
    (λ p l. sym (get_d_lift c vc.code.bytes p) ∙ ap (λ (x : Byte). x.0) (all_at (λ p. same_at p) 14 p agree (subst (λ (n : ℕ). p < n) vc.code.long l)) ∙ get_d_lift d vd.code.bytes p)
  where
    same_at : ℕ → Type 0
    same_at p = at c vc.code.bytes p ≡ at d vd.code.bytes p

    E : ℕ → Bool
    E p = among p es

    bound : (x : List ℕ) (v : Near es t x) → 2 * errors gf X E (λ p. gf.◌⊕◌ (at t ht p) (at x v.code.bytes p)) (places 14) + erased gf X E (places 14) ≤ 6
    bound x v = within _ _ _ _ (wrong_bound es t x ht v.code.bytes (lt ∙ sym v.code.long) 14 lt) (few 14 es) v.close

    agree : All same_at (places 14)
    agree =
        unique gf X 6 (places 14) distinct E (at t ht) (at c vc.code.bytes) (at d vd.code.bytes)
        (moments c vc.code) (moments d vd.code) (bound c vc) (bound d vd)

-- ---- two codewords that differ in at most six bytes are one
pub far_apart : (c d : List ℕ) → Codeword c → Codeword d → wrong [] c d ≤ 6 → c ≡ d
unfolding at
far_apart c d vc vd l =
    ext_get_or 0 c d (vc.long ∙ sym vd.long)
    (λ p h.
    sym (get_d_lift c vc.bytes p)
    ∙ ap (λ (x : Byte). x.0) (same gf (all_at (λ p. w p ≡ 𝟘) 14 p zero (subst (λ (n : ℕ). p < n) vc.long h))) ∙ get_d_lift d vd.bytes p)
  where
    w : ℕ → Byte
    w p = gf.◌⊕◌ (at c vc.bytes p) (at d vd.bytes p)

    zero : All (λ p. w p ≡ 𝟘) (places 14)
    zero =
        minimum_seven w
        (λ i h. byte_eq (difference_moment c d vc.bytes vc.long vd i h ∙ vc.zero_at i h))
        (omega (arith, wrong_bound [] c d vc.bytes vd.bytes (vc.long ∙ sym vd.long) 14 vc.long, l))
