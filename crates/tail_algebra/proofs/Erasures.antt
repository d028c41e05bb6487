-- Erasures: Forney's syndromes are power sums over the errors outside the erased places; Chien's search finds as many places as the degree.
-- Assumes nothing.
use mathlib.Core.Path.{◌≡◌, refl, sym, ap, ◌∙◌}
use mathlib.Core.Bool.{Bool, true, false}
use mathlib.Core.List.{List, [], ◌∷◌}
use Prim.Native.Nat.{ℕ, zero, suc, ◌+◌, ◌<◌, ◌≤◌}
use native.Mathlib.Decide.{dec_lt}
use native.Mathlib.Omega.{arith}
use lib.ListN.{length, get_or, replicate, length-replicate}
use Rattle.tail_algebra.proofs.Fields.{Field, ring, same, ⊗-zero, zero-⊗, ⊕-zero, ⊕-self, zero-⊕, ⊗-one}
use Rattle.bits.specs.Alls.{All}
use Rattle.tail_algebra.proofs.Vandermonde.{Distinct, pow, sum, moment}
use Rattle.tail_algebra.proofs.Polynomial.{eval, eval_zeros, Zeros, DegLe, deg_mono, upd, length_upd, deg_upd, eval_upd}
use Rattle.tail_algebra.proofs.Massey.{conv, conv_moment, distinct_Z, moment_shift}
use Rattle.tail_algebra.proofs.Locate.{run, inv_run, Located, locates, too_few}
use Rattle.tail_algebra.proofs.Word.{supp, supp_moment, supp_distinct, supp_live, cons_if}

module _ (K : Field) where
  open K use {F, ◌⊕◌, ◌⊗◌, 𝟘, 𝟙}

  infixl 60 ◌⊕◌
  infixl 70 ◌⊗◌
  turn : (a b c : F) → a ⊗ (b ⊗ c) ≡ b ⊗ (a ⊗ c)
  turn a b c = simp ring

  module _ {P : Type 0} (X Z : P → F) (XZ : (p : P) → X p ⊗ Z p ≡ 𝟙) where
    -- the erasure locator, N + 1 coefficients
    unfoldable pub gamma : ℕ → List P → List F
    gamma N [] = 𝟙 ∷ replicate N 𝟘
    gamma N (q ∷ qs) = upd K (gamma N qs) 1 (X q) (gamma N qs)

    pub length_gamma : (N : ℕ) (qs : List P) → length (gamma N qs) ≡ suc N
    unfolding gamma
    length_gamma N [] = ap suc (length-replicate N 𝟘)
    length_gamma N (q ∷ qs) = length_upd K (gamma N qs) 1 (X q) (gamma N qs) ∙ length_gamma N qs

    zeros_replicate : (N : ℕ) → Zeros K (replicate N 𝟘)
    zeros_replicate zero = tt
    zeros_replicate (suc n) = (refl, zeros_replicate n)

    pub deg_gamma : (N : ℕ) (qs : List P) → DegLe K (length qs) (gamma N qs)
    unfolding gamma
    deg_gamma N [] = zeros_replicate N
    deg_gamma N (q ∷ qs) =
        deg_upd K (gamma N qs) 1 (X q) (gamma N qs) (suc (length qs)) (length qs)
        (deg_mono K (gamma N qs) (length qs) (suc (length qs)) (omega arith) (deg_gamma N qs)) (deg_gamma N qs) (omega arith)

    gamma_eq : (a z e : F) → e ⊕ a ⊗ (z ⊗ 𝟙 ⊗ e) ≡ e ⊗ (𝟙 ⊕ a ⊗ z)
    gamma_eq a z e = simp ring

    gamma_step : (N : ℕ) (q : P) (qs : List P) (z : F) → length qs < N → eval K (gamma N (q ∷ qs)) z ≡ eval K (gamma N qs) z ⊗ (𝟙 ⊕ X q ⊗ z)
    unfolding gamma pow
    gamma_step N q qs z l =
        eval_upd K (gamma N qs) 1 (X q) (gamma N qs) (length qs) z (deg_gamma N qs) (omega (arith, length_gamma N qs))
        ∙ gamma_eq (X q) z (eval K (gamma N qs) z)

    -- an erased place is a root
    pub gamma_root : (N : ℕ) (q : P) (qs : List P) → length qs < N → eval K (gamma N (q ∷ qs)) (Z q) ≡ 𝟘
    gamma_root N q qs l =
        gamma_step N q qs (Z q) l ∙ ap (λ y. eval K (gamma N qs) (Z q) ⊗ (𝟙 ⊕ y)) (XZ q) ∙ ap (λ y. eval K (gamma N qs) (Z q) ⊗ y) (⊕-self K 𝟙) ∙ ⊗-zero K _

    pub gamma_root_more : (N : ℕ) (p q : P) (qs : List P) → length qs < N → eval K (gamma N qs) (Z p) ≡ 𝟘 → eval K (gamma N (q ∷ qs)) (Z p) ≡ 𝟘
    gamma_root_more N p q qs l h = gamma_step N q qs (Z p) l ∙ ap (λ y. y ⊗ (𝟙 ⊕ X q ⊗ Z p)) h ∙ zero-⊗ K _

    -- a place apart from the erased ones is no root of their locator
    pub gamma_live : (N : ℕ) (p : P) (qs : List P) → length qs ≤ N → All (λ q. ¬ (X q ≡ X p)) qs → ¬ (eval K (gamma N qs) (Z p) ≡ 𝟘)
    unfolding eval gamma
    gamma_live N p [] l h e =
        K.one_not_zero (sym (⊕-zero K 𝟙) ∙ ap (λ y. 𝟙 ⊕ y) (sym (ap (λ y. Z p ⊗ y) (eval_zeros K (replicate N 𝟘) (Z p) (zeros_replicate N)) ∙ ⊗-zero K (Z p))) ∙ e)
    gamma_live N p (q ∷ qs) l h e =
        h.0
        (sym (⊗-one K (X q)) ∙ ap (λ y. X q ⊗ y) (sym (XZ p)) ∙ turn (X q) (X p) (Z p)
        ∙ ap (λ y. X p ⊗ y) (sym (same K (K.no_zero (eval K (gamma N qs) (Z p)) (𝟙 ⊕ X q ⊗ Z p) (sym (gamma_step N q qs (Z p) l) ∙ e) (gamma_live N p qs (omega arith) h.1))))
        ∙ ⊗-one K (X p))

    -- ---- Forney, for a locator G of degree at most f

    module _ (all : List P) (dist : Distinct K X all) (w : P → F) (f : ℕ) (G : List F) (deg : DegLe K f G) where
      abbrev pub Y : P → F
      Y p = w p ⊗ eval K G (Z p) ⊗ pow K (X p) f

      -- Forney's syndromes are the moments of Y
      pub forney : (n : ℕ) (S : ℕ → F) → ((k : ℕ) → k < n → S k ≡ moment K X all w k) → (i : ℕ) → f + i < n
          → conv K G S (f + i) ≡ moment K X all Y i
      forney n S h i l =
          conv_moment K X Z XZ G (f + i) (deg_mono K G f (f + i) (omega arith) deg) all w S (λ k q. h k (omega arith))
          ∙ sym (moment_shift K X Z XZ all (λ p. w p ⊗ eval K G (Z p)) f i)

      abbrev ps : List P
      ps = supp K X Y all

      -- Berlekamp-Massey on them finds the errors outside the erased places
      pub found : (M N : ℕ) → N ≤ M → (T : ℕ → F) → ((k : ℕ) → k < N → T k ≡ moment K X all Y k) → length ps + length ps ≤ N
          → Located K X Z XZ ps Y (supp_distinct K X Y all dist) (run K M T N).degree (run K M T N).loc
      found M N big T h l =
          locates K X Z XZ ps Y (supp_distinct K X Y all dist) M N big _ _ _ _ _
          (inv_run K X Z XZ ps Y (supp_distinct K X Y all dist) M N big T (λ k q. h k q ∙ sym (supp_moment K X Y all k)) N (omega arith))
          (supp_live K X Y all) l

  -- ---- Chien

  module _ {P : Type 0} where
    abbrev pub cons_yes : P → {A : Type 0} → Dec A → List P → List P
    cons_yes p (yes e) ps = p ∷ ps
    cons_yes p (no e) ps = ps

    -- the places where u is zero
    abbrev pub zer : (P → F) → List P → List P
    zer u [] = []
    zer u (p ∷ ps) = cons_yes p (K.zero? (u p)) (zer u ps)

    all_zer : (Q : P → Type 0) (u : P → F) (ps : List P) → All Q ps → All Q (zer u ps)
    all_zer Q u [] h = tt
    all_zer Q u (p ∷ ps) h = go (K.zero? (u p)) (all_zer Q u ps h.1)
      where
        go : (q : Dec (u p ≡ 𝟘)) → All Q (zer u ps) → All Q (cons_yes p q (zer u ps))
        go (yes e) g = (h.0, g)
        go (no e) g = g

    zer_zero : (u : P → F) (ps : List P) → All (λ p. u p ≡ 𝟘) (zer u ps)
    zer_zero u [] = tt
    zer_zero u (p ∷ ps) = go (K.zero? (u p)) (zer_zero u ps)
      where
        go : (q : Dec (u p ≡ 𝟘)) → All (λ p. u p ≡ 𝟘) (zer u ps) → All (λ p. u p ≡ 𝟘) (cons_yes p q (zer u ps))
        go (yes e) g = (e, g)
        go (no e) g = g

    zer_distinct : (X : P → F) (u : P → F) (ps : List P) → Distinct K X ps → Distinct K X (zer u ps)
    zer_distinct X u [] h = tt
    zer_distinct X u (p ∷ ps) h = go (K.zero? (u p)) (zer_distinct X u ps h.1)
      where
        go : (q : Dec (u p ≡ 𝟘)) → Distinct K X (zer u ps) → Distinct K X (cons_yes p q (zer u ps))
        go (yes e) g = (all_zer (λ q. ¬ (X q ≡ X p)) u ps h.0, g)
        go (no e) g = g

    -- where v is not zero, u is: no more places of the first kind than of the second
    zer_more : (X : P → F) (u v : P → F) (ps : List P) → All (λ p. u p ≡ 𝟘) (supp K X v ps) → length (supp K X v ps) ≤ length (zer u ps)
    zer_more X u v [] h = omega arith
    zer_more X u v (p ∷ ps) h = go (K.zero? (v p)) (K.zero? (u p)) h (zer_more X u v ps)
      where
        go : (q : Dec (v p ≡ 𝟘)) (r : Dec (u p ≡ 𝟘)) → All (λ p. u p ≡ 𝟘) (cons_if K X p q (supp K X v ps))
            → (All (λ p. u p ≡ 𝟘) (supp K X v ps) → length (supp K X v ps) ≤ length (zer u ps))
            → length (cons_if K X p q (supp K X v ps)) ≤ length (cons_yes p r (zer u ps))
        go (yes q) (yes r) g f = omega (arith, f g)
        go (yes q) (no r) g f = f g
        go (no q) (yes r) g f = omega (arith, f g.1)
        go (no q) (no r) g f = absurd (r g.0)

  module _ {P : Type 0} (X Z : P → F) (XZ : (p : P) → X p ⊗ Z p ≡ 𝟙) where
    -- Chien's search finds as many places as the degree, the errors among them
    pub chien : (all : List P) → Distinct K X all → (v : P → F) (C : List F) (L : ℕ) → DegLe K L C → get_or C 0 𝟘 ≡ 𝟙 → L < length C
        → L ≡ length (supp K X v all) → All (λ p. eval K C (Z p) ≡ 𝟘) (supp K X v all)
        → length (zer (λ p. eval K C (Z p)) all) ≡ L
    chien all dist v C L deg one long e h = go (dec_lt L (length (zer (λ p. eval K C (Z p)) all)))
      where
        go : Dec (L < length (zer (λ p. eval K C (Z p)) all)) → length (zer (λ p. eval K C (Z p)) all) ≡ L
        go (yes q) =
            absurd (too_few K Z (zer (λ p. eval K C (Z p)) all) (zer_distinct Z (λ p. eval K C (Z p)) all (distinct_Z K X Z XZ all dist)) C L deg one q long
            (zer_zero (λ p. eval K C (Z p)) all))
        go (no q) = omega (arith, q, zer_more X (λ p. eval K C (Z p)) v all h)

  module _ {P : Type 0} (X : P → F) where
    -- fewer places where u is not zero, if u is zero wherever v is
    pub supp_fewer : (u v : P → F) → ((p : P) → v p ≡ 𝟘 → u p ≡ 𝟘) → (ps : List P) → length (supp K X u ps) ≤ length (supp K X v ps)
    supp_fewer u v h [] = omega arith
    supp_fewer u v h (p ∷ ps) = go (K.zero? (u p)) (K.zero? (v p)) (supp_fewer u v h ps)
      where
        go : (q : Dec (u p ≡ 𝟘)) (r : Dec (v p ≡ 𝟘)) → length (supp K X u ps) ≤ length (supp K X v ps)
            → length (cons_if K X p q (supp K X u ps)) ≤ length (cons_if K X p r (supp K X v ps))
        go (yes q) (yes r) g = g
        go (yes q) (no r) g = omega arith
        go (no q) (yes r) g = absurd (q (h p r))
        go (no q) (no r) g = omega arith

    -- the marked places, in order
    abbrev pub cons_mark : Bool → P → List P → List P
    cons_mark true p ps = p ∷ ps
    cons_mark false p ps = ps

    abbrev pub marked : (P → Bool) → List P → List P
    marked m [] = []
    marked m (p ∷ ps) = cons_mark (m p) p (marked m ps)

    -- if w is zero off the marks, the marks' moments are all of it
    pub marked_moment : (m : P → Bool) (w : P → F) (ps : List P) → All (λ p. m p ≡ false → w p ≡ 𝟘) ps → (i : ℕ)
        → moment K X (marked m ps) w i ≡ moment K X ps w i
    unfolding sum
    marked_moment m w [] h i = refl
    marked_moment m w (p ∷ ps) h i = go (m p) h.0 (marked_moment m w ps h.1 i)
      where
        go : (b : Bool) → (b ≡ false → w p ≡ 𝟘) → moment K X (marked m ps) w i ≡ moment K X ps w i
            → moment K X (cons_mark b p (marked m ps)) w i ≡ w p ⊗ pow K (X p) i ⊕ moment K X ps w i
        go true f g = ap (λ y. w p ⊗ pow K (X p) i ⊕ y) g
        go false f g =
            g ∙ sym (ap (λ y. y ⊗ pow K (X p) i ⊕ moment K X ps w i) (f refl) ∙ ap (λ y. y ⊕ moment K X ps w i) (zero-⊗ K (pow K (X p) i))
            ∙ zero-⊕ K (moment K X ps w i))

    all_marked : (Q : P → Type 0) (m : P → Bool) (ps : List P) → All Q ps → All Q (marked m ps)
    all_marked Q m [] h = tt
    all_marked Q m (p ∷ ps) h = go (m p) (all_marked Q m ps h.1)
      where
        go : (b : Bool) → All Q (marked m ps) → All Q (cons_mark b p (marked m ps))
        go true g = (h.0, g)
        go false g = g

    pub marked_distinct : (m : P → Bool) (ps : List P) → Distinct K X ps → Distinct K X (marked m ps)
    marked_distinct m [] h = tt
    marked_distinct m (p ∷ ps) h = go (m p) (marked_distinct m ps h.1)
      where
        go : (b : Bool) → Distinct K X (marked m ps) → Distinct K X (cons_mark b p (marked m ps))
        go true g = (all_marked (λ q. ¬ (X q ≡ X p)) m ps h.0, g)
        go false g = g
