-- Where a word near a codeword may be wrong: the degree passes, as many roots as the degree, and the errors lie among roots and erased places.
-- Assumes nothing.
use mathlib.Core.Bool.{cond, Bool, true, false, false≢true}
use mathlib.Core.Path.{◌≡◌, refl, sym, ap, ap₂, subst, ◌∙◌}
use mathlib.Core.List.{List, [], ◌∷◌, map}
use Prim.Native.Nat.{ℕ, zero, suc, ◌+◌, ◌*◌, ◌-◌, ◌<◌, ◌≤◌}
use native.Mathlib.Nat.{add-suc, suc-add, add-zero, zero-add}
use native.Mathlib.Omega.{arith}
use lib.Dec.{eqb}
use lib.ListN.{length, get_or}
use borrow.Author.Tests.{eqb-true, eqb-false}
use Rattle.bits.specs.Bit.{Bytes, tab, Below}
use Rattle.bits.proofs.Tabs.{length_tab, tab_at, is_tab}
use Rattle.field_rules.specs.Field.{power}
use Rattle.tail_algebra.proofs.Fields.{same}
use Rattle.bits.specs.Alls.{All}
use Rattle.bits.proofs.Alls.{all_map}
use Rattle.tail_algebra.proofs.Vandermonde.{moment}
use Rattle.tail_algebra.proofs.Polynomial.{eval, DegLe}
use Rattle.tail_algebra.proofs.Massey.{conv}
use Rattle.tail_algebra.proofs.Locate.{State}
use Rattle.tail_algebra.proofs.Word.{places, all_below_lem, errors, erased, tick}
use Rattle.tail_algebra.proofs.System.{all_at}
use Rattle.tail_algebra.proofs.Erasures.{gamma, deg_gamma, zer, cons_yes}
use Rattle.tail_algebra.proofs.Complete.{st, degree_small, roots_many, covered}
use Rattle.tail_algebra.proofs.Bytes.{Byte, byte_eq, gf, X, distinct, zero_lt}
use Rattle.tail_rules.specs.Code.{syndrome, among, one_if, wrong_from, Near}
use Rattle.tail_rules.specs.Massey as N
use Rattle.std.specs.declared.option.Option.TheVariants.{None, Some}
use Rattle.tail_rules.specs.Steps.{erasure_locator, Forney, eval_at, mark_at, exponents_of, MayDiffer, Located}
use Rattle.tail_rules.proofs.AtMostOne.{get_d_lift, at, difference_moment, wrong_bound, few, erased_suc}
use Rattle.tail_rules.proofs.OnBytes.{low, down, conv_low, run_low, eval_low, Z, XZ, gamma_low, erased_root, other_live}

abbrev 𝟘 : Byte
𝟘 = (0, zero_lt)

-- ---- counting zeros

zer_suc : (u : ℕ → Byte) (ps : List ℕ) → length (zer gf u (map suc ps)) ≡ length (zer gf (λ p. u (suc p)) ps)
zer_suc u [] = refl
zer_suc u (p ∷ ps) = go (gf.zero? (u (suc p))) (zer_suc u ps)
  where
    go : (q : Dec (u (suc p) ≡ 𝟘)) → length (zer gf u (map suc ps)) ≡ length (zer gf (λ p. u (suc p)) ps)
        → length (cons_yes gf (suc p) q (zer gf u (map suc ps))) ≡ length (cons_yes gf p q (zer gf (λ p. u (suc p)) ps))
    go (yes e) h = ap suc h
    go (no e) h = h

zer_count : (n : ℕ) (u : ℕ → Byte) (f : ℕ → ℕ) → ((p : ℕ) → p < n → (u p).0 ≡ f p) → length (exponents_of (tab n f)) ≡ length (zer gf u (places n))
unfolding tab exponents_of
zer_count zero u f h = refl
zer_count (suc n) u f h =
    go (gf.zero? (u 0)) (eqb (f 0) 0) refl (zer_count n (λ p. u (suc p)) (λ p. f (suc p)) (λ p l. h (suc p) (omega arith)) ∙ sym (zer_suc u (places n)))
  where
    go : (q : Dec (u 0 ≡ 𝟘)) (b : Bool) → eqb (f 0) 0 ≡ b → length (exponents_of (tab n (λ p. f (suc p)))) ≡ length (zer gf u (map suc (places n)))
        → length (cond b (length (tab n (λ p. f (suc p))) ∷ exponents_of (tab n (λ p. f (suc p)))) (exponents_of (tab n (λ p. f (suc p)))))
        ≡ length (cons_yes gf 0 q (zer gf u (map suc (places n))))
    go (yes e) true q ih = ap suc ih
    go (yes e) false q ih = absurd (eqb-false (f 0) 0 q (sym (h 0 (omega arith)) ∙ ap (λ (x : Byte). x.0) e))
    go (no e) true q ih = absurd (e (byte_eq (h 0 (omega arith) ∙ eqb-true (f 0) 0 q)))
    go (no e) false q ih = ih

-- marks: no more than zeros and erased places
mark_count : (n : ℕ) (E : ℕ → Bool) (f : ℕ → ℕ)
    → length (exponents_of (tab n (λ p. cond (E p) 0 (f p)))) ≤ length (exponents_of (tab n f)) + erased gf X E (places n)
unfolding tab exponents_of
mark_count zero E f = omega arith
mark_count (suc n) E f =
    subst (λ (b : Bool). length (cond b (length big ∷ exponents_of big) (exponents_of big))
    ≤ length (cond (eqb (f 0) 0) (length small ∷ exponents_of small) (exponents_of small)) + tick gf X (E 0) (erased gf X E (map suc (places n)))) (sym (zero_or (E 0) (f 0)))
    (go (E 0) (eqb (f 0) 0)
    (subst (λ (k : ℕ). length (exponents_of (tab n (λ p. cond (E (suc p)) 0 (f (suc p))))) ≤ length (exponents_of (tab n (λ p. f (suc p)))) + k) (sym (erased_suc E (places n)))
    (mark_count n (λ p. E (suc p)) (λ p. f (suc p)))))
  where
    big : List ℕ
    big = tab n (λ p. cond (E (suc p)) 0 (f (suc p)))

    small : List ℕ
    small = tab n (λ p. f (suc p))

    zero_or : (e : Bool) (x : ℕ) → eqb (cond e 0 x) 0 ≡ cond e true (eqb x 0)
    zero_or true x = refl
    zero_or false x = refl

    go : (e b : Bool) → length (exponents_of big) ≤ length (exponents_of small) + erased gf X E (map suc (places n))
        → length (cond (cond e true b) (length big ∷ exponents_of big) (exponents_of big))
        ≤ length (cond b (length small ∷ exponents_of small) (exponents_of small)) + tick gf X e (erased gf X E (map suc (places n)))
    go true true ih = omega (arith, ih)
    go true false ih = omega (arith, ih)
    go false true ih = omega (arith, ih)
    go false false ih = ih

-- ---- how far two words are apart that differ only at marks

one_le : (a b : Bool) (n m : ℕ) → n ≤ m → one_if a b n ≤ suc m
one_le true b n m h = omega arith
one_le false true n m h = omega arith
one_le false false n m h = omega arith

pub wrong_le : (i : ℕ) (es t c v : List ℕ) → length t ≡ length v → length c ≡ length v
    → ((j : ℕ) → j < length v → among (i + j) es ≡ false → ¬ (get_or v j 0 ≡ 0) → get_or c j 0 ≡ get_or t j 0)
    → wrong_from i es t c ≤ length (exponents_of v)
unfolding exponents_of
wrong_le i es [] c v lt lc h = omega arith
wrong_le i es (x ∷ t) [] v lt lc h = omega arith
wrong_le i es (x ∷ t) (y ∷ c) [] lt lc h = absurd (omega (arith, lt))
wrong_le i es (x ∷ t) (y ∷ c) (z ∷ v) lt lc h =
    go (eqb z 0) (among i es) (eqb x y) refl refl refl
    (wrong_le (suc i) es t c v (omega arith) (omega arith)
    (λ j l a n. h (suc j) (omega arith) (ap (λ (k : ℕ). among k es) (add-suc i j ∙ sym (suc-add i j)) ∙ a) n))
  where
    go : (b a e : Bool) → eqb z 0 ≡ b → among i es ≡ a → eqb x y ≡ e → wrong_from (suc i) es t c ≤ length (exponents_of v)
        → one_if a e (wrong_from (suc i) es t c) ≤ length (cond b (length v ∷ exponents_of v) (exponents_of v))
    go true a e p q r ih = one_le a e _ _ ih
    go false true e p q r ih = ih
    go false false true p q r ih = ih
    go false false false p q r ih =
        absurd (eqb-false x y r (sym (h 0 (omega arith) (ap (λ (k : ℕ). among k es) (add-zero i) ∙ q) (eqb-false z 0 p))))

-- ---- the theorem

-- what the search has in hand: q from the syndromes s, the run over it, the values v, the marks w
module _ (es s q : List ℕ) (fits : length es ≤ 6) (ins : Below 14 es) (fq : Forney (erasure_locator es) s (length es) q) where
  abbrev pub st_n : N.State
  st_n = N.run q (6 - length es)

  abbrev pub value_at : ℕ → ℕ
  value_at p = eval_at st_n.loc (power (242 + p))

  module _ (t c : List ℕ) (lt : length t ≡ 14) (ht : Bytes t) (syn : s ≡ tab 6 (syndrome t)) (near : Near es t c) where
    abbrev hc : Bytes c
    hc = near.code.bytes

    w : ℕ → Byte
    w p = gf.◌⊕◌ (at t ht p) (at c hc p)

    S : ℕ → Byte
    S k = moment gf X (places 14) w k

    G : List Byte
    G = gamma gf X Z XZ 6 es

    T : ℕ → Byte
    T k = conv gf G S (length es + k)

    S_is : (k : ℕ) → k < 6 → (S k).0 ≡ get_or s k 0
    unfolding S w
    S_is k l = difference_moment t c ht lt near.code k l ∙ sym (tab_at 6 (syndrome t) k l) ∙ ap (λ (x : List ℕ). get_or x k 0) (sym syn)

    T_is : (k : ℕ) → k < 6 - length es → (T k).0 ≡ get_or q k 0
    unfolding T G
    T_is k l =
        conv_low (gamma gf X Z XZ 6 es) S s (length es + k) (λ j h. S_is j (omega arith))
        ∙ ap (λ (g : List ℕ). N.coefficient g s (length es + k)) (gamma_low es) ∙ sym (fq.at k (omega arith))

    -- everything that Complete asks
    E : ℕ → Bool
    E p = among p es

    close : 2 * errors gf X E w (places 14) + length es ≤ 6
    unfolding E w
    close = omega (arith, wrong_bound es t c ht hc (lt ∙ sym near.code.long) 14 lt, near.close)

    in_E : (p : ℕ) → E p ≡ true → eval gf G (Z p) ≡ 𝟘
    unfolding E G
    in_E p h = erased_root p es fits h

    off_E : All (λ p. E p ≡ false → ¬ (eval gf G (Z p) ≡ 𝟘)) (places 14)
    unfolding E G
    off_E = all_map {Q = λ p. p < 14} {R = λ p. among p es ≡ false → ¬ (eval gf (gamma gf X Z XZ 6 es) (Z p) ≡ 𝟘)} (λ p l h. other_live p l es fits ins h) (places 14) (all_below_lem 14)

    deg : DegLe gf (length es) G
    unfolding G
    deg = deg_gamma gf X Z XZ 6 es

    seq : (k : ℕ) → length es + k < 6 → T k ≡ conv gf G S (length es + k)
    unfolding T
    seq k l = refl

    syn_is : (k : ℕ) → k < 6 → S k ≡ moment gf X (places 14) w k
    unfolding S
    syn_is k l = refl

    st_b : State gf
    st_b = st gf X Z XZ (places 14) distinct 6 w S syn_is (length es) G deg E in_E off_E close T seq

    same_run : down st_b ≡ st_n
    unfolding st_b st
    same_run = run_low T q (6 - length es) T_is (6 - length es) (omega arith)

    same_loc : low st_b.loc ≡ st_n.loc
    same_loc = ap (λ (x : N.State). x.loc) same_run

    pub degree_passes : 2 * st_n.degree + length es ≤ 6
    unfolding st_b
    degree_passes =
        subst (λ (x : N.State). 2 * x.degree + length es ≤ 6) same_run
        (degree_small gf X Z XZ (places 14) distinct 6 w S syn_is (length es) G deg E in_E off_E close T seq)

    value_is : (p : ℕ) → p < 14 → (eval gf st_b.loc (Z p)).0 ≡ value_at p
    value_is p l = eval_low st_b.loc (Z p) ∙ ap₂ (λ (c : List ℕ) (k : ℕ). eval_at c (power k)) same_loc (turned p l)
      where
        turned : (p : ℕ) → p < 14 → 255 - (13 - p) ≡ 242 + p
        turned p l = omega arith

    pub roots_pass : length (exponents_of (tab 14 value_at)) ≡ st_n.degree
    unfolding st_b
    roots_pass =
        zer_count 14 (λ p. eval gf st_b.loc (Z p)) value_at value_is
        ∙ roots_many gf X Z XZ (places 14) distinct 6 w S syn_is (length es) G deg E in_E off_E close T seq
        ∙ ap (λ (x : N.State). x.degree) same_run

    unmarked : (b : Bool) (x : ℕ) → ¬ (cond b 0 x ≡ 0) → (b ≡ false) × ¬ (x ≡ 0)
    unmarked true x h = absurd (h refl)
    unmarked false x h = (refl, h)

    equal : (p : ℕ) → w p ≡ 𝟘 → get_or c p 0 ≡ get_or t p 0
    unfolding w at
    equal p e = sym (sym (get_d_lift t ht p) ∙ ap (λ (x : Byte). x.0) (same gf e) ∙ get_d_lift c hc p)

    pub marks_cover : MayDiffer (tab 14 (mark_at es (tab 14 value_at))) t c
    unfolding E st_b
    marks_cover =
        record {
          same = λ p l h.
              let u = unmarked (among p es) (get_or (tab 14 value_at) p 0) (λ e. h (tab_at 14 (mark_at es (tab 14 value_at)) p l ∙ e)) in
              equal p
              (all_at (λ p. E p ≡ false → ¬ (eval gf st_b.loc (Z p) ≡ 𝟘) → w p ≡ 𝟘) 14 p
              (covered gf X Z XZ (places 14) distinct 6 w S syn_is (length es) G deg E in_E off_E close T seq) l u.0
              (λ e. u.1 (tab_at 14 value_at p l ∙ sym (value_is p l) ∙ ap (λ (x : Byte). x.0) e)));
        }

  -- ---- what the search answers

  nothing : ((t c : List ℕ) → length t ≡ 14 → Bytes t → s ≡ tab 6 (syndrome t) → ¬ Near es t c) → Located es s None
  nothing h =
      record {
        long = λ w e. absurd (none e);
        few = λ w e. absurd (none e);
        close = λ w e. absurd (none e);
        all = λ t c lt ht syn near. absurd (h t c lt ht syn near);
      }
    where
      none : {w : List ℕ} → ¬ (None ≡ Some w)
      none e = cc

  pub refused_degree : 6 < 2 * st_n.degree + length es → Located es s None
  refused_degree h = nothing (λ t c lt ht syn near. omega (arith, degree_passes t c lt ht syn near))

  pub refused_roots : ¬ (length (exponents_of (tab 14 value_at)) ≡ st_n.degree) → Located es s None
  refused_roots h = nothing (λ t c lt ht syn near. h (roots_pass t c lt ht syn near))

  pub accepted : 2 * st_n.degree + length es ≤ 6 → length (exponents_of (tab 14 value_at)) ≡ st_n.degree
      → Located es s (Some (tab 14 (mark_at es (tab 14 value_at))))
  accepted d r =
      record {
        long = λ w e. subst (λ (v : List ℕ). length v ≡ 14) (inside e) (length_tab 14 (mark_at es (tab 14 value_at)));
        few = λ w e. subst (λ (v : List ℕ). length (exponents_of v) ≤ 6) (inside e)
            (omega (arith, mark_count 14 (λ p. among p es) (λ p. get_or (tab 14 value_at) p 0), few 14 es, ap (λ (l : List ℕ). length (exponents_of l)) back, r, d));
        close = λ w e t c lt lc m. omega (
          arith,
          wrong_le 0 es t c (tab 14 value_at) (lt ∙ sym long) (lc ∙ sym long)
              (agree t c (subst (λ (v : List ℕ). MayDiffer v t c) (sym (inside e)) m)),
          r,
          d,
        );
        all = λ t c lt ht syn near. (tab 14 (mark_at es (tab 14 value_at)), refl, marks_cover t c lt ht syn near);
      }
    where
      inside : {v w : List ℕ} → Some v ≡ Some w → v ≡ w
      inside e = cc

      long : length (tab 14 value_at) ≡ 14
      long = length_tab 14 value_at

      back : tab 14 (λ p. get_or (tab 14 value_at) p 0) ≡ tab 14 value_at
      back = sym (is_tab (tab 14 value_at) 14 (λ p. get_or (tab 14 value_at) p 0) long (λ i l. refl))

      shown : (b : Bool) (x : ℕ) → b ≡ false → ¬ (x ≡ 0) → ¬ (cond b 0 x ≡ 0)
      shown true x p h = absurd (false≢true (sym p))
      shown false x p h = h

      agree : (t c : List ℕ) → MayDiffer (tab 14 (mark_at es (tab 14 value_at))) t c
          → (j : ℕ) → j < length (tab 14 value_at) → among (0 + j) es ≡ false → ¬ (get_or (tab 14 value_at) j 0 ≡ 0) → get_or c j 0 ≡ get_or t j 0
      agree t c m j l a n =
          let h : j < 14 = subst (λ (k : ℕ). j < k) long l in
          m.same j h (λ e. shown (among j es) (get_or (tab 14 value_at) j 0) (ap (λ (k : ℕ). among k es) (sym (zero-add j)) ∙ a) n (sym (tab_at 14 (mark_at es (tab 14 value_at)) j h) ∙ e))
