-- Berlekamp-Massey as a function, and what it finds on a sequence of power sums.
-- Assumes nothing.
use mathlib.Core.Path.{◌≡◌, refl, sym, ap, subst, ◌∙◌}
use mathlib.Core.List.{List, [], ◌∷◌}
use Prim.Native.Nat.{ℕ, zero, suc, ◌+◌, ◌-◌, ◌<◌, ◌≤◌}
use native.Mathlib.Nat.{not-suc-le-zero}
use native.Mathlib.Decide.{dec_le}
use native.Mathlib.Omega.{arith}
use lib.ListN.{length, take, get_or, replicate, length-replicate}
use lib.Seq.{length-take-le}
use Rattle.tail_algebra.proofs.Fields.{Field}
use Rattle.bits.specs.Alls.{All}
use Rattle.bits.proofs.Alls.{all_map, all_map2}
use Rattle.tail_algebra.proofs.Vandermonde.{Distinct, moment}
use Rattle.tail_algebra.proofs.Polynomial.{eval, Zeros, roots, DegLe, deg_mono, eval_take, upd}
use Rattle.tail_algebra.proofs.Massey.{conv, conv_moment, Inv, keep, stay, grow, vander_from, distinct_Z}

module _ (K : Field) where
  open K use {F, ◌⊕◌, ◌⊗◌, ◌⊘◌, 𝟘, 𝟙}

  infixl 60 ◌⊕◌
  infixl 70 ◌⊗◌
  infixl 70 ◌⊘◌
  pub record State : Type 0 where
    pub loc : List F
    pub old : List F
    pub degree : ℕ
    pub gap : ℕ
    pub last : F

  abbrev pub start : ℕ → State
  start N = record { loc = 𝟙 ∷ replicate N 𝟘; old = 𝟙 ∷ replicate N 𝟘; degree = 0; gap = 1; last = 𝟙 }

  -- the state after a step n with the discrepancy d that is not zero, by whether the locator must grow
  abbrev pub corrected : (n : ℕ) (st : State) → F → Dec (st.degree + st.degree ≤ n) → State
  corrected n st d (yes l) =
      record { loc = upd K st.loc st.gap (d ⊘ st.last) st.old; old = st.loc; degree = n + 1 - st.degree; gap = 1; last = d }
  corrected n st d (no l) =
      record { loc = upd K st.loc st.gap (d ⊘ st.last) st.old; old = st.old; degree = st.degree; gap = suc st.gap; last = st.last }

  abbrev pub stepped : ℕ → (st : State) (d : F) → Dec (d ≡ 𝟘) → State
  stepped n st d (yes e) = record { loc = st.loc; old = st.old; degree = st.degree; gap = suc st.gap; last = st.last }
  stepped n st d (no e) = corrected n st d (dec_le (st.degree + st.degree) n)

  unfoldable pub run : ℕ → (ℕ → F) → ℕ → State
  run N s zero = start N
  run N s (suc n) =
      let st : State = run N s n in
      let d : F = conv K st.loc s n in
      stepped n st d (K.zero? d)

  head_zero : (C : List F) (L : ℕ) → Zeros K (take (suc L) C) → get_or C 0 𝟘 ≡ 𝟘
  head_zero [] L h = refl
  head_zero (c ∷ cs) L h = h.0

  -- a polynomial of degree at most L with constant term one has at most L roots
  pub too_few : {P : Type 0} (Z : P → F) (ps : List P) → Distinct K Z ps → (C : List F) (L : ℕ) → DegLe K L C → get_or C 0 𝟘 ≡ 𝟙
      → L < length ps → L < length C → All (λ p. eval K C (Z p) ≡ 𝟘) ps → ⊥
  too_few Z ps d C L deg one h l e =
      K.one_not_zero (sym one ∙ head_zero C L
      (roots K Z ps d (take (suc L) C) (subst (λ (n : ℕ). n ≤ length ps) (sym (length-take-le (suc L) C l)) h)
      (all_map (λ p q. eval_take K C L (Z p) deg ∙ q) ps e)))

  module _ {P : Type 0} (X Z : P → F) (XZ : (p : P) → X p ⊗ Z p ≡ 𝟙) (ps : List P) (Y : P → F) (distinct : Distinct K X ps) where
    abbrev Inv' : ℕ → ℕ → State → Type 0
    Inv' N n st = Inv K X Z XZ ps Y N n st.loc st.old st.degree st.gap st.last

    zeros_replicate : (N : ℕ) → Zeros K (replicate N 𝟘)
    zeros_replicate zero = tt
    zeros_replicate (suc n) = (refl, zeros_replicate n)

    inv_start : (N : ℕ) → Inv' N 0 (start N)
    inv_start N =
        record {
          one = refl;
          long = ap suc (length-replicate N 𝟘);
          deg = zeros_replicate N;
          low = omega arith;
          few = omega arith;
          holds = λ k l h. absurd (not-suc-le-zero h);
          m = 0;
          deg_b = zeros_replicate N;
          sizes = refl;
          gap_pos = omega arith;
          b_live = K.one_not_zero;
          prev = λ l. absurd (not-suc-le-zero l);
        }

    abbrev Dn : State → ℕ → F
    Dn st n = moment K X ps (λ p. Y p ⊗ eval K st.loc (Z p)) n

    inv_corrected : (N n : ℕ) (st : State) (d : F) → Inv' N n st → n < N → d ≡ Dn st n → ¬ (d ≡ 𝟘)
        → (q : Dec (st.degree + st.degree ≤ n)) → Inv' N (suc n) (corrected n st d q)
    inv_corrected N n st d v h e live (yes l) =
        subst (λ (x : F). Inv K X Z XZ ps Y N (suc n) (upd K st.loc st.gap (d ⊘ st.last) st.old) st.loc (n + 1 - st.degree) 1 x) (sym e)
        (grow K X Z XZ ps Y distinct N n st.loc st.old st.degree st.gap st.last (d ⊘ st.last) v h
        (K.div_mul d st.last v.b_live ∙ e) (λ z. live (e ∙ z)) l)
    inv_corrected N n st d v h e live (no l) =
        stay K X Z XZ ps Y N n st.loc st.old st.degree st.gap st.last (d ⊘ st.last) v h
        (K.div_mul d st.last v.b_live ∙ e) (omega (arith, l))

    inv_stepped : (N n : ℕ) (st : State) (d : F) → Inv' N n st → n < N → d ≡ Dn st n
        → (q : Dec (d ≡ 𝟘)) → Inv' N (suc n) (stepped n st d q)
    inv_stepped N n st d v h e (yes q) = keep K X Z XZ ps Y N n st.loc st.old st.degree st.gap st.last v (sym e ∙ q)
    inv_stepped N n st d v h e (no q) = inv_corrected N n st d v h e q (dec_le (st.degree + st.degree) n)

    -- M + 1 coefficients are kept, and N terms are known
    pub inv_run : (M N : ℕ) → N ≤ M → (s : ℕ → F) → ((k : ℕ) → k < N → s k ≡ moment K X ps Y k) → (n : ℕ) → n ≤ N → Inv' M n (run M s n)
    unfolding run
    inv_run M N big s h zero l = inv_start M
    inv_run M N big s h (suc n) l =
        let st : State = run M s n in
        let v : Inv' M n st = inv_run M N big s h n (omega arith) in
        inv_stepped M n st (conv K st.loc s n) v (omega arith)
        (conv_moment K X Z XZ st.loc n (deg_mono K st.loc st.degree n v.low v.deg) ps Y s (λ k q. h k (omega arith)))
        (K.zero? (conv K st.loc s n))

    -- with twice as many terms as places, and no weight zero: the length is the number of places, and each place is a root
    pub record Located (L : ℕ) (C : List F) : Type 0 where
      pub degree : L ≡ length ps
      pub roots_are : All (λ p. eval K C (Z p) ≡ 𝟘) ps

    pub locates : (M N : ℕ) → N ≤ M → (C B : List F) (L gap : ℕ) (b : F) → Inv K X Z XZ ps Y M N C B L gap b → All (λ p. ¬ (Y p ≡ 𝟘)) ps
        → length ps + length ps ≤ N → Located L C
    locates M N big C B L gap b v live l = record { degree = size (dec_le (length ps) L); roots_are = vanish }
      where
        vanish : All (λ p. eval K C (Z p) ≡ 𝟘) ps
        vanish =
            all_map2 (λ p n e. K.no_zero (Y p) (eval K C (Z p)) e n) ps live
            (vander_from K X Z XZ ps distinct (λ p. Y p ⊗ eval K C (Z p)) L
            (λ i q. v.holds (L + i) (omega arith) (omega (arith, v.few))))

        size : Dec (length ps ≤ L) → L ≡ length ps
        size (yes q) = omega (arith, v.few)
        size (no q) = absurd (too_few Z ps (distinct_Z K X Z XZ ps distinct) C L v.deg v.one (omega (arith, q)) (omega (arith, v.long, v.few)) vanish)
