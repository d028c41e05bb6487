-- A field of characteristic two, and how its sums and products are sorted: `simp ring` proves what `ring` would.
-- Assumes nothing.
use mathlib.Core.Path.{◌≡◌, sym, ap, ap₂, ◌∙◌}

pub record Field : Type 1 where
  pub F : Type 0
  pub ◌⊕◌ : F → F → F
  pub ◌⊗◌ : F → F → F
  pub 𝟘 : F
  pub 𝟙 : F
  pub add_assoc : (a b c : F) → ◌⊕◌ (◌⊕◌ a b) c ≡ ◌⊕◌ a (◌⊕◌ b c)
  pub add_comm : (a b : F) → ◌⊕◌ a b ≡ ◌⊕◌ b a
  pub add_zero : (a : F) → ◌⊕◌ a 𝟘 ≡ a
  pub add_self : (a : F) → ◌⊕◌ a a ≡ 𝟘
  pub mul_assoc : (a b c : F) → ◌⊗◌ (◌⊗◌ a b) c ≡ ◌⊗◌ a (◌⊗◌ b c)
  pub mul_comm : (a b : F) → ◌⊗◌ a b ≡ ◌⊗◌ b a
  pub mul_one : (a : F) → ◌⊗◌ a 𝟙 ≡ a
  pub mul_add : (a b c : F) → ◌⊗◌ a (◌⊕◌ b c) ≡ ◌⊕◌ (◌⊗◌ a b) (◌⊗◌ a c)
  pub no_zero : (a b : F) → ◌⊗◌ a b ≡ 𝟘 → ¬ (a ≡ 𝟘) → b ≡ 𝟘
  pub one_not_zero : ¬ (𝟙 ≡ 𝟘)
  pub zero? : (a : F) → Dec (a ≡ 𝟘)
  pub ◌⊘◌ : F → F → F
  pub div_mul : (a b : F) → ¬ (b ≡ 𝟘) → ◌⊗◌ (◌⊘◌ a b) b ≡ a

module _ (K : Field) where
  open K use {F, ◌⊕◌, ◌⊗◌, 𝟘, 𝟙}

  infixl 60 ◌⊕◌
  infixl 70 ◌⊗◌
  pub ⊕-assoc : (a b c : F) → a ⊕ b ⊕ c ≡ a ⊕ (b ⊕ c)
  ⊕-assoc = K.add_assoc

  pub ⊕-comm : (a b : F) → a ⊕ b ≡ b ⊕ a
  ⊕-comm = K.add_comm

  pub ⊕-zero : (a : F) → a ⊕ 𝟘 ≡ a
  ⊕-zero = K.add_zero

  pub ⊕-self : (a : F) → a ⊕ a ≡ 𝟘
  ⊕-self = K.add_self

  pub ⊗-assoc : (a b c : F) → a ⊗ b ⊗ c ≡ a ⊗ (b ⊗ c)
  ⊗-assoc = K.mul_assoc

  pub ⊗-comm : (a b : F) → a ⊗ b ≡ b ⊗ a
  ⊗-comm = K.mul_comm

  pub ⊗-one : (a : F) → a ⊗ 𝟙 ≡ a
  ⊗-one = K.mul_one

  pub ⊗-add : (a b c : F) → a ⊗ (b ⊕ c) ≡ a ⊗ b ⊕ a ⊗ c
  ⊗-add = K.mul_add

  pub zero-⊕ : (a : F) → 𝟘 ⊕ a ≡ a
  zero-⊕ a = ⊕-comm 𝟘 a ∙ ⊕-zero a

  pub ⊕-left_comm : (a b c : F) → a ⊕ (b ⊕ c) ≡ b ⊕ (a ⊕ c)
  ⊕-left_comm a b c = sym (⊕-assoc a b c) ∙ ap (λ x. x ⊕ c) (⊕-comm a b) ∙ ⊕-assoc b a c

  pub ⊕-self_left : (a b : F) → a ⊕ (a ⊕ b) ≡ b
  ⊕-self_left a b = sym (⊕-assoc a a b) ∙ ap (λ x. x ⊕ b) (⊕-self a) ∙ zero-⊕ b

  pub ⊗-left_comm : (a b c : F) → a ⊗ (b ⊗ c) ≡ b ⊗ (a ⊗ c)
  ⊗-left_comm a b c = sym (⊗-assoc a b c) ∙ ap (λ x. x ⊗ c) (⊗-comm a b) ∙ ⊗-assoc b a c

  pub add-⊗ : (a b c : F) → (a ⊕ b) ⊗ c ≡ a ⊗ c ⊕ b ⊗ c
  add-⊗ a b c = ⊗-comm (a ⊕ b) c ∙ ⊗-add c a b ∙ ap₂ ◌⊕◌ (⊗-comm c a) (⊗-comm c b)

  pub ⊗-zero : (a : F) → a ⊗ 𝟘 ≡ 𝟘
  ⊗-zero a = ap (λ x. a ⊗ x) (sym (⊕-self 𝟘)) ∙ ⊗-add a 𝟘 𝟘 ∙ ⊕-self (a ⊗ 𝟘)

  pub zero-⊗ : (a : F) → 𝟘 ⊗ a ≡ 𝟘
  zero-⊗ a = ⊗-comm 𝟘 a ∙ ⊗-zero a

  pub one-⊗ : (a : F) → 𝟙 ⊗ a ≡ a
  one-⊗ a = ⊗-comm 𝟙 a ∙ ⊗-one a

  pub ruleset ring = (
    ⊗-add,
    add-⊗,
    ⊗-assoc,
    ⊗-comm,
    ⊗-left_comm,
    ⊕-assoc,
    ⊕-comm,
    ⊕-left_comm,
    ⊕-self,
    ⊕-self_left,
    ⊕-zero,
    zero-⊕,
    ⊗-zero,
    zero-⊗,
    ⊗-one,
    one-⊗,
  )

  -- two that sum to zero are one
  pub same : {a b : F} → a ⊕ b ≡ 𝟘 → a ≡ b
  same {a} {b} h = sym (⊕-zero a) ∙ ap (λ x. a ⊕ x) (sym (⊕-self b)) ∙ sym (⊕-assoc a b b) ∙ ap (λ x. x ⊕ b) h ∙ zero-⊕ b
