-- Vandermonde the other way: at distinct nodes there are weights with any first moments, as many as places.
-- Assumes nothing.
use mathlib.Core.List.{List, [], ◌∷◌}
use mathlib.Core.Path.{◌≡◌, refl, sym, ap, ap₂, ◌∙◌}
use Prim.Native.Nat.{ℕ, zero, suc, ◌<◌}
use native.Mathlib.Nat.{not-suc-le-zero}
use native.Mathlib.Omega.{arith}
use lib.ListN.{length}
use Rattle.tail_algebra.proofs.Fields.{Field, ring, same, ⊕-self, ⊗-one}
use Rattle.bits.proofs.Alls.{all_map}
use Rattle.tail_algebra.proofs.Vandermonde.{Distinct, pow, sum, sum_eq, sum_ext, moment, moment_fold}

module _ (K : Field) where
  open K use {F, ◌⊕◌, ◌⊗◌, 𝟘, 𝟙}

  infixl 60 ◌⊕◌
  infixl 70 ◌⊗◌
  by : {A : Type 0} → Dec A → F → F → F
  by (yes e) a b = a
  by (no e) a b = b

  by_yes : {A : Type 0} (q : Dec A) (a b : F) → A → by q a b ≡ a
  unfolding by
  by_yes (yes e) a b h = refl
  by_yes (no e) a b h = absurd (e h)

  by_no : {A : Type 0} (q : Dec A) (a b : F) → ¬ A → by q a b ≡ b
  unfolding by
  by_no (yes e) a b h = absurd (h e)
  by_no (no e) a b h = refl

  -- one moment more, with x the node, y its power, m and m' two neighbouring moments of the others, s and s' the moments wanted
  step : (a x y m m' s s' : F) → m' ⊕ x ⊗ m ≡ s' ⊕ x ⊗ s → a ⊗ y ⊕ m ≡ s → a ⊗ (x ⊗ y) ⊕ m' ≡ s'
  step a x y m m' s s' h g =
      ap (λ t. a ⊗ (x ⊗ y) ⊕ t) (there m' (x ⊗ m) ∙ ap (λ t. t ⊕ x ⊗ m) (h ∙ ap (λ t. s' ⊕ x ⊗ t) (sym g))) ∙ back
    where
      there : (b c : F) → b ≡ b ⊕ c ⊕ c
      there b c = simp ring

      back : a ⊗ (x ⊗ y) ⊕ (s' ⊕ x ⊗ (a ⊗ y ⊕ m) ⊕ x ⊗ m) ≡ s'
      back = simp ring

  module _ {P : Type 0} (X : P → F) where
    -- a weight of the others, from one for the moments with p taken away
    other : P → (P → F) → P → F
    other p v q = K.◌⊘◌ (v q) (X q ⊕ X p)

    undone : (p : P) (v : P → F) (q : P) → ¬ (X q ≡ X p) → other p v q ⊗ (X q ⊕ X p) ≡ v q
    unfolding other
    undone p v q n = K.div_mul (v q) (X q ⊕ X p) (λ e. n (same K e))

    pub weights : List P → (ℕ → F) → P → F
    weights [] S q = 𝟘
    weights (p ∷ ps) S q =
        by (K.zero? (X q ⊕ X p)) (S 0 ⊕ sum K ps (other p (weights ps (λ i. S (suc i) ⊕ X p ⊗ S i)))) (other p (weights ps (λ i. S (suc i) ⊕ X p ⊗ S i)) q)

    all_moments : (p : P) (ps : List P) (S : ℕ → F) (u : P → F)
        → ((i : ℕ) → i < length ps → moment K X ps (λ q. u q ⊗ (X q ⊕ X p)) i ≡ S (suc i) ⊕ X p ⊗ S i)
        → (i : ℕ) → i < suc (length ps) → (S 0 ⊕ sum K ps u) ⊗ pow K (X p) i ⊕ moment K X ps u i ≡ S i
    unfolding pow
    all_moments p ps S u h zero l =
        ap (λ t. (S 0 ⊕ sum K ps u) ⊗ 𝟙 ⊕ t) (sum_eq K ps _ u (λ q. ⊗-one K (u q))) ∙ once (S 0) (sum K ps u)
      where
        once : (b c : F) → (b ⊕ c) ⊗ 𝟙 ⊕ c ≡ b
        once b c = simp ring
    all_moments p ps S u h (suc i) l =
        step (S 0 ⊕ sum K ps u) (X p) (pow K (X p) i) (moment K X ps u i) (moment K X ps u (suc i)) (S i) (S (suc i))
        (sym (moment_fold K X ps u (X p) i) ∙ h i (omega arith)) (all_moments p ps S u h i (omega arith))

    pub weights_moment : (ps : List P) → Distinct K X ps → (S : ℕ → F) (i : ℕ) → i < length ps → moment K X ps (weights ps S) i ≡ S i
    unfolding weights sum
    weights_moment [] d S i l = absurd (not-suc-le-zero l)
    weights_moment (p ∷ ps) d S i l =
        let v : P → F = weights ps (λ j. S (suc j) ⊕ X p ⊗ S j) in
        let u : P → F = other p v in
        let a : F = S 0 ⊕ sum K ps u in
        ap₂ (λ b c. b ⊗ pow K (X p) i ⊕ c) (by_yes (K.zero? (X p ⊕ X p)) a (u p) (⊕-self K (X p)))
        (sum_ext K ps _ _ (all_map (λ q n. ap (λ w. w ⊗ pow K (X q) i) (by_no (K.zero? (X q ⊕ X p)) a (u q) (λ e. n (same K e)))) ps d.0))
        ∙ all_moments p ps S u (λ j h.
        sum_ext K ps _ _ (all_map (λ q n. ap (λ w. w ⊗ pow K (X q) j) (undone p v q n)) ps d.0)
        ∙ weights_moment ps d.1 (λ j. S (suc j) ⊕ X p ⊗ S j) j h) i l
