-- Polynomials as lists of coefficients, lowest first: synthetic division, and fewer roots than coefficients.
-- Assumes nothing.
use mathlib.Core.Path.{◌≡◌, refl, sym, ap, ap₂, subst, ◌∙◌}
use mathlib.Core.List.{List, [], ◌∷◌}
use Prim.Native.Nat.{ℕ, zero, suc, ◌+◌, ◌<◌, ◌≤◌}
use native.Mathlib.Nat.{le_of_suc-le-suc, not-suc-le-zero}
use native.Mathlib.Omega.{arith}
use lib.ListN.{length, take}
use Rattle.tail_algebra.proofs.Fields.{Field, ring, same, ⊗-zero, ⊕-zero, ⊕-self}
use Rattle.bits.specs.Alls.{All}
use Rattle.bits.proofs.Alls.{all_map2}
use Rattle.tail_algebra.proofs.Vandermonde.{Distinct, pow}

module _ (K : Field) where
  open K use {F, ◌⊕◌, ◌⊗◌, 𝟘, 𝟙}

  infixl 60 ◌⊕◌
  infixl 70 ◌⊗◌
  -- the value at x of the polynomial whose coefficients these are, the lowest first
  unfoldable pub eval : List F → F → F
  eval [] x = 𝟘
  eval (c ∷ cs) x = c ⊕ x ⊗ eval cs x

  abbrev pub Zeros : List F → Type 0
  Zeros = All (λ c. c ≡ 𝟘)

  pub eval_zeros : (cs : List F) (x : F) → Zeros cs → eval cs x ≡ 𝟘
  unfolding eval
  eval_zeros [] x h = refl
  eval_zeros (c ∷ cs) x h = ap₂ (λ a b. a ⊕ x ⊗ b) h.0 (eval_zeros cs x h.1) ∙ simp ring

  -- the coefficients of (C(x) - C(r)) / (x - r), for C = c ∷ cs: the values at r of the rests of cs
  unfoldable pub quot : List F → F → List F
  quot [] r = []
  quot (d ∷ ds) r = eval (d ∷ ds) r ∷ quot ds r

  pub length_quot : (cs : List F) (r : F) → length (quot cs r) ≡ length cs
  unfolding quot
  length_quot [] r = refl
  length_quot (d ∷ ds) r = ap suc (length_quot ds r)

  divide_eq : (c x r u v q : F) → u ⊕ v ≡ (x ⊕ r) ⊗ q → (c ⊕ x ⊗ u) ⊕ (c ⊕ r ⊗ v) ≡ (x ⊕ r) ⊗ (v ⊕ x ⊗ q)
  divide_eq c x r u v q h =
      ap (λ y. (c ⊕ x ⊗ y) ⊕ (c ⊕ r ⊗ v)) split ∙ simp ring
    where
      twice : u ≡ v ⊕ (u ⊕ v)
      twice = simp ring

      split : u ≡ v ⊕ (x ⊕ r) ⊗ q
      split = twice ∙ ap (λ y. v ⊕ y) h

  pub divide : (c : F) (cs : List F) (x r : F) → eval (c ∷ cs) x ⊕ eval (c ∷ cs) r ≡ (x ⊕ r) ⊗ eval (quot cs r) x
  unfolding eval quot
  divide c [] x r = simp ring
  divide c (d ∷ ds) x r = divide_eq c x r (eval (d ∷ ds) x) (eval (d ∷ ds) r) (eval (quot ds r) x) (divide d ds x r)

  -- the quotient is zero only if the rest is
  quot_zeros : (cs : List F) (r : F) → Zeros (quot cs r) → Zeros cs
  unfolding eval quot
  quot_zeros [] r h = tt
  quot_zeros (d ∷ ds) r h =
      let z : Zeros ds = quot_zeros ds r h.1 in
      (sym (⊕-zero K d) ∙ ap (λ y. d ⊕ y) (sym (ap (λ y. r ⊗ y) (eval_zeros ds r z) ∙ ⊗-zero K r)) ∙ h.0, z)

  lead : (c : F) (cs : List F) (r : F) → Zeros cs → eval (c ∷ cs) r ≡ 𝟘 → c ≡ 𝟘
  unfolding eval
  lead c cs r z e = sym (⊕-zero K c) ∙ ap (λ y. c ⊕ y) (sym (ap (λ y. r ⊗ y) (eval_zeros cs r z) ∙ ⊗-zero K r)) ∙ e

  module _ {P : Type 0} (Z : P → F) where
    root : (c : F) (cs : List F) (r x : F) → eval (c ∷ cs) r ≡ 𝟘 → eval (c ∷ cs) x ≡ 𝟘 → ¬ (x ≡ r) → eval (quot cs r) x ≡ 𝟘
    root c cs r x h g n =
        K.no_zero (x ⊕ r) (eval (quot cs r) x) (sym (divide c cs x r) ∙ ap₂ ◌⊕◌ g h ∙ ⊕-self K 𝟘) (λ e. n (same K e))

    -- a polynomial with no more coefficients than it has distinct roots is zero
    pub roots : (ps : List P) → Distinct K Z ps → (C : List F) → length C ≤ length ps
        → All (λ p. eval C (Z p) ≡ 𝟘) ps → Zeros C
    roots [] d [] l h = tt
    roots [] d (c ∷ cs) l h = absurd (not-suc-le-zero l)
    roots (p ∷ ps) d [] l h = tt
    roots (p ∷ ps) d (c ∷ cs) l h =
        let zq : Zeros (quot cs (Z p)) =
        roots ps d.1 (quot cs (Z p)) (subst (λ (n : ℕ). n ≤ length ps) (sym (length_quot cs (Z p))) (le_of_suc-le-suc l))
        (all_map2 (λ q e n. root c cs (Z p) (Z q) h.0 e n) ps h.1 d.0) in
        let z : Zeros cs = quot_zeros cs (Z p) zq in
        (lead c cs (Z p) z h.0, z)

  -- ---- a bound on the degree; a multiple of a shifted polynomial added, cut at the length of the first

  abbrev pub DegLe : ℕ → List F → Type 0
  DegLe n [] = Unit {0}
  DegLe zero (c ∷ cs) = Zeros cs
  DegLe (suc n) (c ∷ cs) = DegLe n cs

  pub zeros_deg : (n : ℕ) (cs : List F) → Zeros cs → DegLe n cs
  zeros_deg n [] h = tt
  zeros_deg zero (c ∷ cs) h = h.1
  zeros_deg (suc n) (c ∷ cs) h = zeros_deg n cs h.1

  pub deg_mono : (cs : List F) (n m : ℕ) → n ≤ m → DegLe n cs → DegLe m cs
  deg_mono [] n m l h = tt
  deg_mono (c ∷ cs) zero zero l h = h
  deg_mono (c ∷ cs) zero (suc m) l h = zeros_deg m cs h
  deg_mono (c ∷ cs) (suc n) zero l h = absurd (not-suc-le-zero l)
  deg_mono (c ∷ cs) (suc n) (suc m) l h = deg_mono cs n m (le_of_suc-le-suc l) h

  pub eval_take : (cs : List F) (n : ℕ) (x : F) → DegLe n cs → eval (take (suc n) cs) x ≡ eval cs x
  unfolding eval
  eval_take [] n x h = refl
  eval_take (c ∷ cs) zero x h = ap (λ y. c ⊕ x ⊗ y) (sym (eval_zeros cs x h))
  eval_take (c ∷ cs) (suc n) x h = ap (λ y. c ⊕ x ⊗ y) (eval_take cs n x h)

  unfoldable pub upd : List F → ℕ → F → List F → List F
  upd [] g k B = []
  upd (c ∷ cs) zero k [] = c ∷ cs
  upd (c ∷ cs) zero k (b ∷ bs) = (c ⊕ k ⊗ b) ∷ upd cs zero k bs
  upd (c ∷ cs) (suc g) k B = c ∷ upd cs g k B

  pub length_upd : (C : List F) (g : ℕ) (k : F) (B : List F) → length (upd C g k B) ≡ length C
  unfolding upd
  length_upd [] g k B = refl
  length_upd (c ∷ cs) zero k [] = refl
  length_upd (c ∷ cs) zero k (b ∷ bs) = ap suc (length_upd cs zero k bs)
  length_upd (c ∷ cs) (suc g) k B = ap suc (length_upd cs g k B)

  upd_by_zeros : (C : List F) (k : F) (B : List F) → Zeros B → upd C zero k B ≡ C
  unfolding upd
  upd_by_zeros [] k B h = refl
  upd_by_zeros (c ∷ cs) k [] h = refl
  upd_by_zeros (c ∷ cs) k (b ∷ bs) h =
      ap₂ (λ (y : F) (ys : List F). y ∷ ys) (ap (λ y. c ⊕ k ⊗ y) h.0 ∙ simp ring) (upd_by_zeros cs k bs h.1)

  upd_eq₀ : (k c b z e : F) → c ⊕ k ⊗ b ⊕ z ⊗ e ≡ c ⊕ z ⊗ e ⊕ k ⊗ (𝟙 ⊗ (b ⊕ z ⊗ 𝟘))
  upd_eq₀ k c b z e = simp ring

  upd_eq₁ : (k c b z e f : F) → c ⊕ k ⊗ b ⊕ z ⊗ (e ⊕ k ⊗ (𝟙 ⊗ f)) ≡ c ⊕ z ⊗ e ⊕ k ⊗ (𝟙 ⊗ (b ⊕ z ⊗ f))
  upd_eq₁ k c b z e f = simp ring

  upd_eq₂ : (k c z e y f : F) → c ⊕ z ⊗ (e ⊕ k ⊗ (y ⊗ f)) ≡ c ⊕ z ⊗ e ⊕ k ⊗ (z ⊗ y ⊗ f)
  upd_eq₂ k c z e y f = simp ring

  pub eval_upd : (C : List F) (g : ℕ) (k : F) (B : List F) (m : ℕ) (z : F) → DegLe m B → m + g < length C
      → eval (upd C g k B) z ≡ eval C z ⊕ k ⊗ (pow K z g ⊗ eval B z)
  unfolding upd eval pow
  eval_upd [] g k B m z h l = absurd (not-suc-le-zero l)
  eval_upd (c ∷ cs) zero k [] m z h l = simp ring
  eval_upd (c ∷ cs) zero k (b ∷ bs) zero z h l =
      ap (λ (ys : List F). c ⊕ k ⊗ b ⊕ z ⊗ eval ys z) (upd_by_zeros cs k bs h)
      ∙ upd_eq₀ k c b z (eval cs z)
      ∙ ap (λ y. c ⊕ z ⊗ eval cs z ⊕ k ⊗ (𝟙 ⊗ (b ⊕ z ⊗ y))) (sym (eval_zeros bs z h))
  eval_upd (c ∷ cs) zero k (b ∷ bs) (suc m) z h l =
      ap (λ y. c ⊕ k ⊗ b ⊕ z ⊗ y) (eval_upd cs zero k bs m z h (omega arith)) ∙ upd_eq₁ k c b z (eval cs z) (eval bs z)
  eval_upd (c ∷ cs) (suc g) k B m z h l =
      ap (λ y. c ⊕ z ⊗ y) (eval_upd cs g k B m z h (omega arith)) ∙ upd_eq₂ k c z (eval cs z) (pow K z g) (eval B z)

  pub deg_upd : (C : List F) (g : ℕ) (k : F) (B : List F) (n m : ℕ) → DegLe n C → DegLe m B → m + g ≤ n → DegLe n (upd C g k B)
  unfolding upd
  deg_upd [] g k B n m hc hb l = tt
  deg_upd (c ∷ cs) zero k [] n m hc hb l = hc
  deg_upd (c ∷ cs) zero k (b ∷ bs) zero zero hc hb l = rw (upd_by_zeros cs k bs hb) hc
  deg_upd (c ∷ cs) zero k (b ∷ bs) zero (suc m) hc hb l = absurd (omega arith)
  deg_upd (c ∷ cs) zero k (b ∷ bs) (suc n) zero hc hb l = deg_upd cs zero k bs n zero hc (zeros_deg zero bs hb) (omega arith)
  deg_upd (c ∷ cs) zero k (b ∷ bs) (suc n) (suc m) hc hb l = deg_upd cs zero k bs n m hc hb (omega arith)
  deg_upd (c ∷ cs) (suc g) k B zero m hc hb l = absurd (omega arith)
  deg_upd (c ∷ cs) (suc g) k B (suc n) m hc hb l = deg_upd cs g k B n m hc hb (omega arith)
