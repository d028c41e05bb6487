-- A word near a codeword passes every test of the repair, and its errors lie among the places that the repair solves for.
-- Assumes nothing.
use mathlib.Core.Path.{◌≡◌, refl, sym, ap, ◌∙◌}
use mathlib.Core.Bool.{Bool, true, false}
use mathlib.Core.List.{List, [], ◌∷◌}
use Prim.Native.Nat.{ℕ, zero, ◌+◌, ◌*◌, ◌-◌, ◌<◌, ◌≤◌}
use native.Mathlib.Omega.{arith}
use lib.ListN.{length}
use Rattle.tail_algebra.proofs.Fields.{Field, ⊗-zero, zero-⊗, ⊗-comm}
use Rattle.bits.specs.Alls.{All}
use Rattle.bits.proofs.Alls.{all_map2}
use Rattle.tail_algebra.proofs.Vandermonde.{Distinct, pow, moment}
use Rattle.tail_algebra.proofs.Polynomial.{eval, DegLe}
use Rattle.tail_algebra.proofs.Massey.{conv, live, pow_live}
use Rattle.tail_algebra.proofs.Locate.{State, run, inv_run, Located}
use Rattle.tail_algebra.proofs.Word.{supp, supp_moment, supp_distinct, cons_if, errors, unless}
use Rattle.tail_algebra.proofs.Erasures.{Y, forney, found, zer, chien, supp_fewer}

module _ (K : Field) where
  open K use {F, ◌⊕◌, ◌⊗◌, 𝟘, 𝟙}

  infixl 60 ◌⊕◌
  infixl 70 ◌⊗◌
  module _ {P : Type 0} (X Z : P → F) (XZ : (p : P) → X p ⊗ Z p ≡ 𝟙) (all : List P) (dist : Distinct K X all) where
    supp_all : (Q : P → Type 0) (v : P → F) (ps : List P) → All Q (supp K X v ps) → All (λ p. ¬ (v p ≡ 𝟘) → Q p) ps
    supp_all Q v [] h = tt
    supp_all Q v (p ∷ ps) h = go (K.zero? (v p)) h (supp_all Q v ps)
      where
        go : (q : Dec (v p ≡ 𝟘)) → All Q (cons_if K X p q (supp K X v ps)) → (All Q (supp K X v ps) → All (λ p. ¬ (v p ≡ 𝟘) → Q p) ps)
            → All (λ p. ¬ (v p ≡ 𝟘) → Q p) (p ∷ ps)
        go (yes q) g f = ((λ n. absurd (n q)), f g)
        go (no q) g f = ((λ n. g.0), f g.1)

    module _ (n : ℕ) (w : P → F) (S : ℕ → F) (syn : (k : ℕ) → k < n → S k ≡ moment K X all w k) (f : ℕ) (G : List F) (deg : DegLe K f G) (E : P → Bool)
        (in_E : (p : P) → E p ≡ true → eval K G (Z p) ≡ 𝟘)
        (off_E : All (λ p. E p ≡ false → ¬ (eval K G (Z p) ≡ 𝟘)) all)
        (near : 2 * errors K X E w all + f ≤ n) (T : ℕ → F) (seq : (k : ℕ) → f + k < n → T k ≡ conv K G S (f + k)) where
      -- what Berlekamp-Massey finds on n - f terms
      unfoldable pub st : State K
      st = run K n T (n - f)

      abbrev Yw : P → F
      Yw = Y K X Z XZ all dist w f G deg

      weight_zero : (p : P) → unless K X (E p) (w p) ≡ 𝟘 → Yw p ≡ 𝟘
      weight_zero p h = go (E p) refl h
        where
          go : (b : Bool) → E p ≡ b → unless K X b (w p) ≡ 𝟘 → Yw p ≡ 𝟘
          go true e q = ap (λ y. y ⊗ pow K (X p) f) (ap (λ y. w p ⊗ y) (in_E p e) ∙ ⊗-zero K (w p)) ∙ zero-⊗ K _
          go false e q = ap (λ y. y ⊗ pow K (X p) f) (ap (λ y. y ⊗ eval K G (Z p)) q ∙ zero-⊗ K _) ∙ zero-⊗ K _

      few : length (supp K X Yw all) ≤ errors K X E w all
      few = supp_fewer K X Yw (λ p. unless K X (E p) (w p)) weight_zero all

      sequence : (k : ℕ) → k < n - f → T k ≡ moment K X all Yw k
      sequence k l = seq k (omega arith) ∙ forney K X Z XZ all dist w f G deg n S syn k (omega arith)

      located : Located K X Z XZ (supp K X Yw all) Yw (supp_distinct K X Yw all dist) st.degree st.loc
      unfolding st
      located = found K X Z XZ all dist w f G deg n (n - f) (omega arith) T sequence (omega (arith, few, near))

      -- the degree passes
      pub degree_small : 2 * st.degree + f ≤ n
      degree_small = omega (arith, few, near, located.degree)

      -- as many roots as the degree
      pub roots_many : length (zer K (λ p. eval K st.loc (Z p)) all) ≡ st.degree
      unfolding st
      roots_many =
          let v = inv_run K X Z XZ (supp K X Yw all) Yw (supp_distinct K X Yw all dist) n (n - f) (omega arith) T (λ k q. sequence k q ∙ sym (supp_moment K X Yw all k)) (n - f) (omega arith) in
          chien K X Z XZ all dist Yw st.loc st.degree v.deg v.one (omega (arith, v.long, v.low)) located.degree located.roots_are

      -- the errors lie among the erased places and the roots
      pub covered : All (λ p. E p ≡ false → ¬ (eval K st.loc (Z p) ≡ 𝟘) → w p ≡ 𝟘) all
      covered = all_map2 (λ p h o e r. go p h (o e) r (K.zero? (Yw p))) all (supp_all (λ p. eval K st.loc (Z p) ≡ 𝟘) Yw all located.roots_are) off_E
        where
          go : (p : P) → (¬ (Yw p ≡ 𝟘) → eval K st.loc (Z p) ≡ 𝟘) → ¬ (eval K G (Z p) ≡ 𝟘) → ¬ (eval K st.loc (Z p) ≡ 𝟘) → Dec (Yw p ≡ 𝟘) → w p ≡ 𝟘
          go p h o r (no q) = absurd (r (h q))
          go p h o r (yes q) =
              K.no_zero (eval K G (Z p)) (w p)
              (⊗-comm K _ _
              ∙ K.no_zero (pow K (X p) f) (w p ⊗ eval K G (Z p)) (⊗-comm K _ _ ∙ q)
              (pow_live K (X p) (live K X Z XZ p) f))
              o
