-- Sums over places, moments, and Vandermonde: weights whose first moments vanish are zero.
-- Assumes nothing.
use mathlib.Core.Path.{◌≡◌, refl, sym, ap, ap₂, ◌∙◌}
use mathlib.Core.List.{List, [], ◌∷◌}
use Prim.Native.Nat.{ℕ, zero, suc, ◌<◌}
use native.Mathlib.Omega.{arith}
use lib.ListN.{length}
use Rattle.bits.specs.Alls.{All}
use Rattle.bits.proofs.Alls.{all_map, all_map2}
use Rattle.tail_algebra.proofs.Fields.{Field, ring, same, ⊗-zero, zero-⊗, ⊕-zero, ⊕-self, ⊗-add, ⊗-one}

module _ (K : Field) where
  open K use {F, ◌⊕◌, ◌⊗◌, 𝟘, 𝟙}

  infixl 60 ◌⊕◌
  infixl 70 ◌⊗◌
  unfoldable pub pow : F → ℕ → F
  pow x zero = 𝟙
  pow x (suc n) = x ⊗ pow x n

  module _ {P : Type 0} where
    unfoldable pub sum : List P → (P → F) → F
    sum [] f = 𝟘
    sum (p ∷ ps) f = f p ⊕ sum ps f

    pub sum_ext : (ps : List P) (f g : P → F) → All (λ p. f p ≡ g p) ps → sum ps f ≡ sum ps g
    unfolding sum
    sum_ext [] f g h = refl
    sum_ext (p ∷ ps) f g h = ap₂ ◌⊕◌ h.0 (sum_ext ps f g h.1)

    pub sum_eq : (ps : List P) (f g : P → F) → ((p : P) → f p ≡ g p) → sum ps f ≡ sum ps g
    unfolding sum
    sum_eq [] f g h = refl
    sum_eq (p ∷ ps) f g h = ap₂ ◌⊕◌ (h p) (sum_eq ps f g h)

    pub sum_zero : (ps : List P) (f : P → F) → All (λ p. f p ≡ 𝟘) ps → sum ps f ≡ 𝟘
    unfolding sum
    sum_zero [] f h = refl
    sum_zero (p ∷ ps) f h = ap₂ ◌⊕◌ h.0 (sum_zero ps f h.1) ∙ ⊕-self K 𝟘

    pub sum_add : (ps : List P) (f g : P → F) → sum ps (λ p. f p ⊕ g p) ≡ sum ps f ⊕ sum ps g
    unfolding sum
    sum_add [] f g = sym (⊕-self K 𝟘)
    sum_add (p ∷ ps) f g = ap (λ x. f p ⊕ g p ⊕ x) (sum_add ps f g) ∙ simp ring

    pub sum_mul : (ps : List P) (a : F) (f : P → F) → sum ps (λ p. a ⊗ f p) ≡ a ⊗ sum ps f
    unfolding sum
    sum_mul [] a f = sym (⊗-zero K a)
    sum_mul (p ∷ ps) a f = ap (λ x. a ⊗ f p ⊕ x) (sum_mul ps a f) ∙ sym (⊗-add K a (f p) (sum ps f))

  module _ {P : Type 0} (X : P → F) where
    -- the i-th moment of the weights w at the places ps
    abbrev pub moment : List P → (P → F) → ℕ → F
    moment ps w i = sum ps (λ p. w p ⊗ pow (X p) i)

    abbrev pub Apart : P → List P → Type 0
    Apart p ps = All (λ q. ¬ (X q ≡ X p)) ps

    abbrev pub Distinct : List P → Type 0
    Distinct [] = Unit {0}
    Distinct (p ∷ ps) = Apart p ps × Distinct ps

    -- one node less: the moments of w q (X q + a)
    pub moment_fold : (ps : List P) (w : P → F) (a : F) (i : ℕ)
        → moment ps (λ q. w q ⊗ (X q ⊕ a)) i ≡ moment ps w (suc i) ⊕ a ⊗ moment ps w i
    unfolding pow
    moment_fold ps w a i =
        sum_eq ps _ _ (λ q. eq (w q) (X q) (pow (X q) i))
        ∙ sum_add ps (λ q. w q ⊗ pow (X q) (suc i)) (λ q. a ⊗ (w q ⊗ pow (X q) i))
        ∙ ap (λ x. moment ps w (suc i) ⊕ x) (sum_mul ps a (λ q. w q ⊗ pow (X q) i))
      where
        eq : (b x y : F) → b ⊗ (x ⊕ a) ⊗ y ≡ b ⊗ (x ⊗ y) ⊕ a ⊗ (b ⊗ y)
        eq b x y = simp ring

    factor : (u x y : F) → u ⊗ (x ⊕ y) ≡ 𝟘 → ¬ (x ≡ y) → u ≡ 𝟘
    factor u x y h d = K.no_zero (x ⊕ y) u (simp ring (simp ring at h)) (λ e. d (same K e))

    -- the first place taken away: from two neighbouring moments of all
    less : (a u m n y : F) → u ⊗ (a ⊗ y) ⊕ m ≡ 𝟘 → u ⊗ y ⊕ n ≡ 𝟘 → m ⊕ a ⊗ n ≡ 𝟘
    less a u m n y h g =
        ap₂ (λ s t. s ⊕ a ⊗ t) (sym (same K h)) (sym (same K g)) ∙ simp ring

    fewer : (p : P) (ps : List P) (w : P → F) → ((i : ℕ) → i < suc (length ps) → moment (p ∷ ps) w i ≡ 𝟘)
        → (i : ℕ) → i < length ps → moment ps (λ q. w q ⊗ (X q ⊕ X p)) i ≡ 𝟘
    unfolding sum pow
    fewer p ps w h i l =
        moment_fold ps w (X p) i
        ∙ less (X p) (w p) (moment ps w (suc i)) (moment ps w i) (pow (X p) i) (h (suc i) (omega arith)) (h i (omega arith))

    first : (p : P) (ps : List P) (w : P → F) → moment (p ∷ ps) w 0 ≡ 𝟘 → All (λ q. w q ≡ 𝟘) ps → w p ≡ 𝟘
    unfolding sum pow
    first p ps w h r =
        sym (⊗-one K (w p)) ∙ sym (⊕-zero K (w p ⊗ 𝟙))
        ∙ ap (λ x. w p ⊗ 𝟙 ⊕ x) (sym (sum_zero ps (λ q. w q ⊗ 𝟙) (all_map (λ q e. ap (λ x. x ⊗ 𝟙) e ∙ zero-⊗ K 𝟙) ps r)))
        ∙ h

    -- Vandermonde: weights at distinct nodes whose first moments, as many as places, vanish are all zero
    pub vander : (ps : List P) → Distinct ps → (w : P → F)
        → ((i : ℕ) → i < length ps → moment ps w i ≡ 𝟘) → All (λ p. w p ≡ 𝟘) ps
    vander [] d w h = tt
    vander (p ∷ ps) d w h =
        let rest : All (λ q. w q ≡ 𝟘) ps =
        all_map2 (λ q e n. factor (w q) (X q) (X p) e n) ps
        (vander ps d.1 (λ q. w q ⊗ (X q ⊕ X p)) (fewer p ps w h)) d.0 in
        (first p ps w (h 0 (omega arith)) rest, rest)
