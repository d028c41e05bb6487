-- A loop that fills a list from the front, one store a turn.
-- Assumes nothing.
use mathlib.Core.List.{List}
use mathlib.Core.Logic.{⊎_elim}
use mathlib.Core.Path.{◌≡◌, refl, sym, ap, ◌∙◌, subst}
use Prim.Native.Nat.{ℕ, zero, suc, ◌+◌, ◌≤◌, ◌<◌}
use native.Mathlib.Decide.{ℕ_discrete}
use native.Mathlib.Nat.{not-suc-le-zero}
use native.Mathlib.Omega.{arith}
use lib.ListN.{length, get_or, set, length-set}
use lib.Seq.{get_or-set_same, get_or-set_other}
use Rattle.bits.specs.Bit.{tab}
use Rattle.bits.proofs.Tabs.{is_tab}

-- Any property of the places filled so far, over any element: one store more.
module _ {A : Type 0} (l : List A) (d : A) (Q : ℕ → A → Type 0) (i : ℕ) (v : A) where
  stored : i < length l → ((s : ℕ) → s < i → Q s (get_or l s d)) → Q i v → (s : ℕ) → s < i + 1 → Dec (s ≡ i) → Q s (get_or (set l i v) s d)
  stored h g q s k (yes p) = subst (λ (x : ℕ). Q x (get_or (set l i v) x d)) (sym p) (subst (Q i) (sym (get_or-set_same l i v d h)) q)
  stored h g q s k (no p) = subst (Q s) (sym (get_or-set_other l i s v d p)) (g s (omega arith))

  pub set_more : i < length l → ((s : ℕ) → s < i → Q s (get_or l s d)) → Q i v → (s : ℕ) → s < i + 1 → Q s (get_or (set l i v) s d)
  set_more h g q s k = stored h g q s k (ℕ_discrete s i)

-- the list has n elements, and the first k are f 0, .., f (k - 1)
pub record Filled (l : List ℕ) (n : ℕ) (f : ℕ → ℕ) (k : ℕ) : Type 0 where
  pub within : k ≤ n
  pub long : length l ≡ n
  pub holds : (i : ℕ) → i < k → get_or l i 0 ≡ f i

pub filled_none : (l : List ℕ) (n : ℕ) (f : ℕ → ℕ) → length l ≡ n → Filled l n f 0
filled_none l n f e = record { within = omega arith; long = e; holds = λ i h. absurd (not-suc-le-zero h) }

pub filled_more : {l : List ℕ} {n : ℕ} {f : ℕ → ℕ} {k v : ℕ} → k < n → Filled l n f k → v ≡ f k → Filled (set l k v) n f (k + 1)
filled_more {l} {n} {f} {k} {v} h g e =
    let t : k < length l = omega arith in
    record { within = omega arith; long = length-set l k v ∙ g.long; holds = set_more l 0 (λ i x. x ≡ f i) k v t g.holds e }

pub filled_all : {l : List ℕ} {n : ℕ} {f : ℕ → ℕ} {k : ℕ} → n ≤ k → Filled l n f k → l ≡ tab n f
filled_all {l} {n} {f} {k} h g = is_tab l n f g.long (λ i j. g.holds i (omega arith))
