-- The system for the bytes at the marked places: it is regular, and what it yields turns the word into the codeword, if there is one.
-- Assumes nothing.
use mathlib.Core.Bool.{cond, Bool, true, false}
use mathlib.Core.Path.{◌≡◌, refl, sym, ap, ap₂, subst, ◌∙◌}
use mathlib.Core.List.{List, [], ◌∷◌, map, map-map}
use Prim.Native.Nat.{ℕ, zero, suc, ◌+◌, ◌*◌, ◌-◌, ◌<◌, ◌≤◌}
use native.Mathlib.Nat.{not-suc-le-zero, le_of_suc-le-suc, mod-eq_of_lt, zero-mul, suc-mul}
use native.Mathlib.Decide.{dec_lt}
use native.Mathlib.Omega.{arith}
use lib.Dec.{eqb}
use lib.Bits.{bit_xor, xor_self, xor_lt}
use lib.ListN.{length, get_or, take, length-map}
use lib.Seq.{get_or-take}
use borrow.Author.Tests.{ne_eqb, eqb-false}
use Rattle.bits.proofs.Xor.{xor_again}
use Rattle.bits.proofs.Belows.{below_none, below_cons, below_rest}
use Rattle.bits.specs.Bit.{Bytes, tab}
use Rattle.bits.proofs.Tabs.{tab_at}
use Rattle.field_rules.specs.Field.{product, power}
use Rattle.field_rules.proofs.Products.{power_lt, power_add}
use Rattle.bits.specs.Alls.{All}
use Rattle.bits.proofs.Alls.{all_map}
use Rattle.tail_algebra.proofs.Vandermonde.{Distinct, pow, moment}
use Rattle.tail_algebra.proofs.Word.{places, all_below_lem}
use Rattle.tail_algebra.proofs.Elimination.{Solves}
use Rattle.tail_algebra.proofs.System.{System, error_solves, only_zero}
use Rattle.tail_algebra.proofs.Erasures.{marked, cons_mark, marked_moment, marked_distinct}
use Rattle.tail_algebra.proofs.Bytes.{Byte, byte_eq, gf, X, distinct, zero_lt}
use Rattle.tail_algebra.proofs.Low.{lo, mat}
use Rattle.tail_rules.specs.Code.{syndrome, Codeword}
use Rattle.tail_rules.specs.Steps.{exponents_of, added_at, entry, SystemOf, Regular, Solved, MayDiffer, Corrected}
use Rattle.tail_rules.proofs.Loops.{length_added}
use Rattle.tail_rules.proofs.AtMostOne.{get_d_lift, at, difference_moment}

abbrev 𝟘 : Byte
𝟘 = (0, zero_lt)

-- ---- lists over the marked places

abbrev marks : List ℕ → ℕ → Bool
marks w p = eqb (get_or w p 0) 0

-- g at each marked place
unfoldable pub pick_at : List ℕ → (ℕ → ℕ) → List ℕ
pick_at [] g = []
pick_at (x ∷ xs) g = cond (eqb x 0) (g 0 ∷ pick_at xs (λ p. g (suc p))) (pick_at xs (λ p. g (suc p)))

marked_suc : (m : ℕ → Bool) (ps : List ℕ) → marked gf X m (map suc ps) ≡ map suc (marked gf X (λ p. m (suc p)) ps)
marked_suc m [] = refl
marked_suc m (p ∷ ps) = go (m (suc p)) (marked_suc m ps)
  where
    go : (b : Bool) → marked gf X m (map suc ps) ≡ map suc (marked gf X (λ p. m (suc p)) ps)
        → cons_mark gf X b (suc p) (marked gf X m (map suc ps)) ≡ map suc (cons_mark gf X b p (marked gf X (λ p. m (suc p)) ps))
    go true h = ap (λ (l : List ℕ). suc p ∷ l) h
    go false h = h

pick_marked : (w : List ℕ) (g : ℕ → ℕ) → pick_at w g ≡ map g (marked gf X (marks w) (places (length w)))
unfolding pick_at
pick_marked [] g = refl
pick_marked (x ∷ xs) g = go (eqb x 0) (pick_marked xs (λ p. g (suc p)))
  where
    go : (b : Bool) → pick_at xs (λ p. g (suc p)) ≡ map (λ p. g (suc p)) (marked gf X (marks xs) (places (length xs)))
        → cond b (g 0 ∷ pick_at xs (λ p. g (suc p))) (pick_at xs (λ p. g (suc p))) ≡ map g (cons_mark gf X b 0 (marked gf X (marks (x ∷ xs)) (map suc (places (length xs)))))
    go true h =
        ap (λ (l : List ℕ). g 0 ∷ l)
        (h ∙ sym (map-map g suc (marked gf X (marks xs) (places (length xs)))) ∙ ap (map g) (sym (marked_suc (marks (x ∷ xs)) (places (length xs)))))
    go false h =
        h ∙ sym (map-map g suc (marked gf X (marks xs) (places (length xs)))) ∙ ap (map g) (sym (marked_suc (marks (x ∷ xs)) (places (length xs))))

pick_ext : (w : List ℕ) (g h : ℕ → ℕ) → ((p : ℕ) → g p ≡ h p) → pick_at w g ≡ pick_at w h
unfolding pick_at
pick_ext [] g h e = refl
pick_ext (x ∷ xs) g h e =
    ap₂ (λ (a : ℕ) (l : List ℕ). cond (eqb x 0) (a ∷ l) l) (e 0) (pick_ext xs (λ p. g (suc p)) (λ p. h (suc p)) (λ p. e (suc p)))

exponents_pick : (w : List ℕ) → exponents_of w ≡ pick_at w (λ p. length w - suc p)
unfolding pick_at exponents_of
exponents_pick [] = refl
exponents_pick (x ∷ xs) =
    ap₂ (λ (a : ℕ) (l : List ℕ). cond (eqb x 0) (a ∷ l) l) (first (length xs))
    (exponents_pick xs ∙ pick_ext xs (λ p. length xs - suc p) (λ p. suc (length xs) - suc (suc p)) (later (length xs)))
  where
    first : (n : ℕ) → n ≡ suc n - 1
    first n = omega arith

    later : (n p : ℕ) → n - suc p ≡ suc n - suc (suc p)
    later n p = omega arith

get_d_map : (f : ℕ → ℕ) (l : List ℕ) (n a b : ℕ) → n < length l → get_or (map f l) n a ≡ f (get_or l n b)
get_d_map f [] n a b h = absurd (not-suc-le-zero h)
get_d_map f (x ∷ xs) zero a b h = refl
get_d_map f (x ∷ xs) (suc n) a b h = get_d_map f xs n a b (le_of_suc-le-suc h)

exponents_suc : (x : ℕ) (w : List ℕ) → exponents_of (suc x ∷ w) ≡ exponents_of w
unfolding exponents_of
exponents_suc x w = ap (λ (b : Bool). cond b (length w ∷ exponents_of w) (exponents_of w)) (ne_eqb (suc x) 0 (λ e. absurd (omega (arith, e))))

pick_suc : (x : ℕ) (w : List ℕ) (g : ℕ → ℕ) → pick_at (suc x ∷ w) g ≡ pick_at w (λ p. g (suc p))
unfolding pick_at
pick_suc x w g = ap (λ (b : Bool). cond b (g 0 ∷ pick_at w (λ p. g (suc p))) (pick_at w (λ p. g (suc p)))) (ne_eqb (suc x) 0 (λ e. absurd (omega (arith, e))))

-- ---- what the addition gives

added_is : (w t y c : List ℕ) → length t ≡ length w → length c ≡ length w → length (exponents_of w) ≤ length y
    → ((j : ℕ) → j < length (exponents_of w) → get_or y j 0 ≡ get_or (pick_at w (λ p. bit_xor (get_or t p 0) (get_or c p 0))) j 0)
    → ((p : ℕ) → p < length w → ¬ (get_or w p 0 ≡ 0) → get_or c p 0 ≡ get_or t p 0)
    → added_at w t y ≡ c
unfolding added_at pick_at exponents_of
added_is [] t y [] lt lc ly h g = refl
added_is [] t y (d ∷ c) lt lc ly h g = absurd (omega (arith, lc))
added_is (x ∷ w) [] y c lt lc ly h g = absurd (omega (arith, lt))
added_is (x ∷ w) (b ∷ t) y [] lt lc ly h g = absurd (omega (arith, lc))
added_is (zero ∷ w) (b ∷ t) [] (d ∷ c) lt lc ly h g = absurd (omega (arith, ly))
added_is (zero ∷ w) (b ∷ t) (z ∷ y) (d ∷ c) lt lc ly h g =
    ap₂ (λ (a : ℕ) (l : List ℕ). a ∷ l) (ap (bit_xor b) (h 0 (omega arith)) ∙ xor_again b d)
    (added_is w t y c (omega (arith, lt)) (omega (arith, lc)) (omega (arith, ly)) (λ j l. h (suc j) (omega (arith, l))) (λ p l n. g (suc p) (omega (arith, l)) n))
added_is (suc x ∷ w) (b ∷ t) y (d ∷ c) lt lc ly h g =
    ap₂ (λ (a : ℕ) (l : List ℕ). a ∷ l) (sym (g 0 (omega arith) (λ e. absurd (omega (arith, e)))))
    (added_is w t y c (omega (arith, lt)) (omega (arith, lc)) (subst (λ (l : List ℕ). length l ≤ length y) (exponents_suc x w) ly)
    (λ j l.
    h j (subst (λ (k : List ℕ). j < length k) (sym (exponents_suc x w)) l)
    ∙ ap (λ (k : List ℕ). get_or k j 0) (pick_suc x w (λ p. bit_xor (get_or (b ∷ t) p 0) (get_or (d ∷ c) p 0))))
    (λ p l n. g (suc p) (omega (arith, l)) n))

added_bytes : (w t y : List ℕ) → Bytes t → ((j : ℕ) → j < length (exponents_of w) → get_or y j 0 < 256) → Bytes (added_at w t y)
unfolding added_at exponents_of
added_bytes [] t y ht hy = below_none 256 (omega arith)
added_bytes (x ∷ w) [] y ht hy = ht
added_bytes (zero ∷ w) (b ∷ t) [] ht hy = below_cons (ht.at 0) (added_bytes w t [] (below_rest ht) (λ j l. hy (suc j) (omega (arith, l))))
added_bytes (zero ∷ w) (b ∷ t) (z ∷ y) ht hy =
    below_cons (xor_lt 8 b z (ht.at 0) (hy 0 (omega arith))) (added_bytes w t y (below_rest ht) (λ j l. hy (suc j) (omega (arith, l))))
added_bytes (suc x ∷ w) (b ∷ t) y ht hy =
    below_cons (ht.at 0) (added_bytes w t y (below_rest ht) (λ j l. hy j (subst (λ (k : List ℕ). j < length k) (sym (exponents_suc x w)) l)))

added_same : (w t y : List ℕ) (p : ℕ) → length t ≡ length w → ¬ (get_or w p 0 ≡ 0) → get_or (added_at w t y) p 0 ≡ get_or t p 0
unfolding added_at
added_same [] t y p e h = absurd (h refl)
added_same (x ∷ w) [] y p e h = absurd (omega (arith, e))
added_same (zero ∷ w) (b ∷ t) [] zero e h = absurd (h refl)
added_same (zero ∷ w) (b ∷ t) [] (suc p) e h = added_same w t [] p (omega (arith, e)) h
added_same (zero ∷ w) (b ∷ t) (z ∷ y) zero e h = absurd (h refl)
added_same (zero ∷ w) (b ∷ t) (z ∷ y) (suc p) e h = added_same w t y p (omega (arith, e)) h
added_same (suc x ∷ w) (b ∷ t) y zero e h = refl
added_same (suc x ∷ w) (b ∷ t) y (suc p) e h = added_same w t y p (omega (arith, e)) h

-- ---- numbers as bytes

lo_is : (x : ℕ) → x < 256 → (lo x).0 ≡ x
unfolding lo
lo_is x h = mod-eq_of_lt h

pow_at : (e r : ℕ) → (pow gf (power e, power_lt e) r).0 ≡ power (r * e)
unfolding pow power
pow_at e zero = sym (ap power (zero-mul e))
pow_at e (suc r) = ap (product (power e)) (pow_at e r) ∙ power_add e (r * e) ∙ ap power (turn r e)
  where
    turn : (r e : ℕ) → e + r * e ≡ suc r * e
    turn r e = omega (arith, suc-mul r e)

pow_X : (p r : ℕ) → pow gf (X p) r ≡ lo (power (r * (13 - p)))
pow_X p r = byte_eq (pow_at (13 - p) r ∙ sym (lo_is (power (r * (13 - p))) (power_lt (r * (13 - p)))))

-- ---- the system

module _ (s w a : List ℕ) (count : ℕ) (m : List (List ℕ)) (lw : length w ≡ 14) (few : length (exponents_of w) ≤ 6)
    (ta : take count a ≡ exponents_of w) (cn : count ≡ length (exponents_of w)) (sys : SystemOf a count s m) where
  abbrev U : List ℕ
  U = marked gf X (marks w) (places (length w))

  S : ℕ → Byte
  S r = lo (get_or s r 0)

  exponents_U : exponents_of w ≡ map (λ p. 13 - p) U
  exponents_U = exponents_pick w ∙ pick_ext w (λ p. length w - suc p) (λ p. 13 - p) (λ p. ap (λ (n : ℕ). n - suc p) lw ∙ turn p) ∙ pick_marked w (λ p. 13 - p)
    where
      turn : (p : ℕ) → 14 - suc p ≡ 13 - p
      turn p = omega arith

  count_U : length U ≡ count
  count_U = sym (length-map U (λ p. 13 - p)) ∙ ap length (sym exponents_U) ∙ sym cn

  node_at : (c : ℕ) → c < count → get_or a c 0 ≡ 13 - get_or U c 13
  node_at c l =
      sym (get_or-take count a c 0 l) ∙ ap (λ (k : List ℕ). get_or k c 0) (ta ∙ exponents_U)
      ∙ get_d_map (λ p. 13 - p) U c 0 13 (subst (λ (k : ℕ). c < k) (sym count_U) l)

  system : System gf X 13 U S (mat m)
  unfolding mat S
  system =
      record {
        nodes = λ r c lr lc.
            ap lo ((sys.rows r (omega (arith, lr, count_U, cn))).nodes c (subst (λ (k : ℕ). c < k) count_U lc)
            ∙ ap (λ (k : ℕ). power (r * k)) (node_at c (subst (λ (k : ℕ). c < k) count_U lc)))
            ∙ sym (pow_X (get_or U c 13) r);
        right = λ r lr. ap lo (ap (λ (k : ℕ). entry m r k) count_U ∙ (sys.rows r (omega (arith, lr, count_U, cn))).right);
      }

  distinct_U : Distinct gf X U
  distinct_U = marked_distinct gf X (marks w) (places (length w)) (subst (λ (n : ℕ). Distinct gf X (places n)) (sym lw) distinct)

  pub system_regular : Regular count m
  system_regular = subst (λ (n : ℕ). Regular n m) count_U (only_zero gf X 13 U S (mat m) system distinct_U)

  -- ---- its solution

  module _ (t y : List ℕ) (lt : length t ≡ 14) (ht : Bytes t) (syn : s ≡ tab 6 (syndrome t)) (sol : Solved count m y) where
    module _ (c : List ℕ) (code : Codeword c) (d : MayDiffer w t c) where
      v : ℕ → Byte
      v p = gf.◌⊕◌ (at t ht p) (at c code.bytes p)

      v_is : (p : ℕ) → (v p).0 ≡ bit_xor (get_or t p 0) (get_or c p 0)
      unfolding v at
      v_is p = ap₂ bit_xor (get_d_lift t ht p) (get_d_lift c code.bytes p)

      off : All (λ p. marks w p ≡ false → v p ≡ 𝟘) (places (length w))
      unfolding v at
      off = all_map {Q = λ p. p < length w} {R = λ p. marks w p ≡ false → v p ≡ 𝟘} (λ p l e. byte_eq (ap₂ bit_xor (get_d_lift t ht p) (get_d_lift c code.bytes p ∙ d.same p (subst (λ (n : ℕ). p < n) lw l) (eqb-false (get_or w p 0) 0 e)) ∙ xor_self (get_or t p 0))) (places (length w)) (all_below_lem (length w))

      -- the error, and one
      zed : (k : ℕ) → Dec (k < length U) → Byte
      zed k (yes l) = v (get_or U k 13)
      zed k (no l) = gf.𝟙

      z : ℕ → Byte
      z k = zed k (dec_lt k (length U))

      z_low : (k : ℕ) → k < length U → z k ≡ v (get_or U k 13)
      unfolding z zed
      z_low k l = go (dec_lt k (length U))
        where
          go : (q : Dec (k < length U)) → zed k q ≡ v (get_or U k 13)
          go (yes q) = refl
          go (no q) = absurd (q l)

      z_one : z (length U) ≡ gf.𝟙
      unfolding z zed
      z_one = go (dec_lt (length U) (length U))
        where
          go : (q : Dec (length U < length U)) → zed (length U) q ≡ gf.𝟙
          go (yes q) = absurd (omega (arith, q))
          go (no q) = refl

      sums : (r : ℕ) → r < length U → S r ≡ moment gf X U v r
      unfolding S v
      sums r l =
          byte_eq
          (lo_is (get_or s r 0) (subst (λ (x : ℕ). x < 256) (sym s_is) (moment gf X (places 14) v r).1) ∙ s_is)
          ∙ sym (marked_moment gf X (marks w) v (places (length w)) off r ∙ ap (λ (n : ℕ). moment gf X (places n) v r) lw)
        where
          low : r < 6
          low = omega (arith, l, count_U, cn)

          s_is : get_or s r 0 ≡ (moment gf X (places 14) v r).0
          s_is = ap (λ (k : List ℕ). get_or k r 0) syn ∙ tab_at 6 (syndrome t) r low ∙ sym (difference_moment t c ht lt code r low)

      found : (j : ℕ) → j < count → get_or y j 0 ≡ get_or (pick_at w (λ p. bit_xor (get_or t p 0) (get_or c p 0))) j 0
      found j l =
          sym (lo_is (get_or y j 0) (sol.bytes j l))
          ∙ ap (λ (x : Byte). x.0) (sym solved ∙ z_low j l_u) ∙ v_is (get_or U j 13)
          ∙ sym (get_d_map (λ p. bit_xor (get_or t p 0) (get_or c p 0)) U j 0 13 l_u)
          ∙ ap (λ (k : List ℕ). get_or k j 0) (sym (pick_marked w (λ p. bit_xor (get_or t p 0) (get_or c p 0))))
        where
          l_u : j < length U
          l_u = subst (λ (k : ℕ). j < k) (sym count_U) l

          solved : z j ≡ lo (get_or y j 0)
          solved =
              sol.only z (subst (λ (n : ℕ). Solves gf n (suc n) (mat m) z) count_U (error_solves gf X 13 U S (mat m) system v z z_low z_one sums))
              (ap z (sym count_U) ∙ z_one) j l

      pub only_code : added_at w t y ≡ c
      only_code =
          added_is w t y c (lt ∙ sym lw) (code.long ∙ sym lw) (omega (arith, few, sol.long))
          (λ j l. found j (subst (λ (k : ℕ). j < k) (sym cn) l)) (λ p l n. d.same p (subst (λ (k : ℕ). p < k) lw l) n)

    pub corrected : Corrected t w (added_at w t y)
    corrected =
        record {
          long = length_added w t y (lw ∙ sym lt) ∙ lt;
          bytes = added_bytes w t y ht (λ j l. sol.bytes j (subst (λ (k : ℕ). j < k) (sym cn) l));
          within = record { same = λ p l n. added_same w t y p (lt ∙ sym lw) n };
          only = only_code;
        }
