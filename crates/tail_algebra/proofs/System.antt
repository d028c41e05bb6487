-- The system for the bytes at the places U: it never lacks a pivot, and what it yields is the error at those places.
-- Assumes nothing.
use mathlib.Core.Path.{◌≡◌, refl, sym, ap, ap₂, subst, ◌∙◌}
use mathlib.Core.List.{List, [], ◌∷◌, map}
use Prim.Native.Nat.{ℕ, zero, suc, ◌<◌}
use native.Mathlib.Nat.{le_of_suc-le-suc, not-suc-le-zero}
use lib.ListN.{length, get_or, length-map}
use Rattle.tail_algebra.proofs.Fields.{Field, ⊗-zero, ⊗-comm, ⊕-assoc, ⊕-zero, ⊕-self, zero-⊕, ⊗-one}
use Rattle.bits.specs.Alls.{All}
use Rattle.bits.proofs.Alls.{all_map}
use Rattle.tail_algebra.proofs.Vandermonde.{Distinct, pow, sum, sum_ext, moment, vander}
use Rattle.tail_algebra.proofs.Word.{places, all_suc, all_below_lem}
use Rattle.tail_algebra.proofs.Elimination.{Mat, dot, Solves, sum_suc}

pub length_places : (n : ℕ) → length (places n) ≡ n
length_places zero = refl
length_places (suc n) = ap suc (length-map (places n) suc ∙ length_places n)

all_un_suc : (Q : ℕ → Type 0) (ps : List ℕ) → All Q (map suc ps) → All (λ p. Q (suc p)) ps
all_un_suc Q [] h = tt
all_un_suc Q (p ∷ ps) h = (h.0, all_un_suc Q ps h.1)

pub all_at : (Q : ℕ → Type 0) (n c : ℕ) → All Q (places n) → c < n → Q c
all_at Q zero c h l = absurd (not-suc-le-zero l)
all_at Q (suc n) zero h l = h.0
all_at Q (suc n) (suc c) h l = all_at (λ p. Q (suc p)) n c (all_un_suc Q (places n) h.1) (le_of_suc-le-suc l)

module _ (K : Field) where
  open K use {F, ◌⊕◌, ◌⊗◌, 𝟘, 𝟙}

  infixl 60 ◌⊕◌
  infixl 70 ◌⊗◌
  sum_last : (n : ℕ) (f : ℕ → F) → sum K (places (suc n)) f ≡ sum K (places n) f ⊕ f n
  unfolding sum
  sum_last zero f = ⊕-zero K (f 0) ∙ sym (zero-⊕ K (f 0))
  sum_last (suc n) f =
      ap (λ y. f 0 ⊕ y) (sum_suc K (places (suc n)) f ∙ sum_last n (λ p. f (suc p)))
      ∙ sym (⊕-assoc K (f 0) (sum K (places n) (λ p. f (suc p))) (f (suc n)))
      ∙ ap (λ y. f 0 ⊕ y ⊕ f (suc n)) (sym (sum_suc K (places n) f))

  module _ {P : Type 0} (X : P → F) (d : P) where
    sum_at : (U : List P) (f : P → F) → sum K (places (length U)) (λ c. f (get_or U c d)) ≡ sum K U f
    unfolding sum
    sum_at [] f = refl
    sum_at (p ∷ U) f = ap (λ y. f p ⊕ y) (sum_suc K (places (length U)) (λ c. f (get_or (p ∷ U) c d)) ∙ sum_at U f)

    all_cols : (Q : P → Type 0) (U : List P) → All Q U → All (λ c. Q (get_or U c d)) (places (length U))
    all_cols Q [] h = tt
    all_cols Q (p ∷ U) h = (h.0, all_suc (λ c. Q (get_or (p ∷ U) c d)) (places (length U)) (all_cols Q U h.1))

    distinct_map : (f : ℕ → F) (ps : List ℕ) → Distinct K (λ c. f (suc c)) ps → Distinct K f (map suc ps)
    distinct_map f [] h = tt
    distinct_map f (p ∷ ps) h = (all_suc (λ q. ¬ (f q ≡ f (suc p))) ps h.0, distinct_map f ps h.1)

    distinct_cols : (U : List P) → Distinct K X U → Distinct K (λ c. X (get_or U c d)) (places (length U))
    distinct_cols [] h = tt
    distinct_cols (p ∷ U) h = (
      all_suc (λ c. ¬ (X (get_or (p ∷ U) c d) ≡ X p)) (places (length U)) (all_cols (λ q. ¬ (X q ≡ X p)) U h.0),
      distinct_map (λ c. X (get_or (p ∷ U) c d)) (places (length U)) (distinct_cols U h.1),
    )

    -- the system: row r is X^r at each place of U, and then the syndrome
    pub record System (U : List P) (S : ℕ → F) (A : Mat K) : Type 0 where
      pub nodes : (r c : ℕ) → r < length U → c < length U → A r c ≡ pow K (X (get_or U c d)) r
      pub right : (r : ℕ) → r < length U → A r (length U) ≡ S r

    module _ (U : List P) (S : ℕ → F) (A : Mat K) (v : System U S A) where
      system_dot : (z : ℕ → F) (r : ℕ) → r < length U
          → dot K (suc (length U)) (A r) z ≡ moment K (λ c. X (get_or U c d)) (places (length U)) z r ⊕ S r ⊗ z (length U)
      unfolding dot
      system_dot z r lr =
          sum_last (length U) (λ c. A r c ⊗ z c)
          ∙ ap₂ ◌⊕◌
          (sum_ext K (places (length U)) _ _
          (all_map (λ c l. ap (λ y. y ⊗ z c) (v.nodes r c lr l) ∙ ⊗-comm K (pow K (X (get_or U c d)) r) (z c)) (places (length U)) (all_below_lem (length U))))
          (ap (λ y. y ⊗ z (length U)) (v.right r lr))

      -- the error at the places of U, and one, solve it
      pub error_solves : (w : P → F) (z : ℕ → F) → ((c : ℕ) → c < length U → z c ≡ w (get_or U c d)) → z (length U) ≡ 𝟙
          → ((r : ℕ) → r < length U → S r ≡ moment K X U w r) → Solves K (length U) (suc (length U)) A z
      error_solves w z hz h1 hS r l =
          system_dot z r l
          ∙ ap₂ ◌⊕◌
          (sum_ext K (places (length U)) _ (λ c. w (get_or U c d) ⊗ pow K (X (get_or U c d)) r)
          (all_map (λ c q. ap (λ y. y ⊗ pow K (X (get_or U c d)) r) (hz c q)) (places (length U)) (all_below_lem (length U)))
          ∙ sum_at U (λ p. w p ⊗ pow K (X p) r))
          (ap (λ y. S r ⊗ y) h1 ∙ ⊗-one K (S r) ∙ hS r l)
          ∙ ⊕-self K (moment K X U w r)

      -- a solution whose last entry is zero is zero
      pub only_zero : Distinct K X U → (z : ℕ → F) → Solves K (length U) (suc (length U)) A z → z (length U) ≡ 𝟘 → (c : ℕ) → c < length U → z c ≡ 𝟘
      only_zero dist z h e c l =
          all_at (λ c. z c ≡ 𝟘) (length U) c
          (vander K (λ c. X (get_or U c d)) (places (length U)) (distinct_cols U dist) z
          (λ r q.
          sym (⊕-zero K _) ∙ ap (λ y. moment K (λ c. X (get_or U c d)) (places (length U)) z r ⊕ y) (sym (ap (λ y. S r ⊗ y) e ∙ ⊗-zero K (S r)))
          ∙ sym (system_dot z r (subst (λ (n : ℕ). r < n) (length_places (length U)) q)) ∙ h r (subst (λ (n : ℕ). r < n) (length_places (length U)) q)))
          l
