-- The order in which a marker is looked for: where it is due, a symbol later, a symbol earlier.
-- Assumes nothing.
use mathlib.Core.Path.{◌≡◌, refl, sym, ◌∙◌}
use mathlib.Core.List.{List}
use mathlib.Core.Bool.{Bool, true, false, true≢false}
use Prim.Native.Nat.{ℕ, ◌+◌, ◌-◌, ◌≤◌}
use Rattle.sync_rules.specs.Matching.{matches}
use Rattle.sync_rules.specs.Moves.{Move, Stay, Later, Earlier, in_bits, move_by}
use Rattle.sync_rules.specs.Account.{Tried}

-- by the way that the tests went
pub move_cases : (P : Move → Type 0) (a b c : Bool) → (a ≡ true → P Stay) → (a ≡ false → b ≡ true → P Later) → (a ≡ false → b ≡ false → c ≡ true → P Earlier) → (a ≡ false → b ≡ false → c ≡ false → P Stay) → P (move_by a b c)
unfolding move_by
move_cases P true b c due later earlier nowhere = due refl
move_cases P false true c due later earlier nowhere = later refl refl
move_cases P false false true due later earlier nowhere = earlier refl refl refl
move_cases P false false false due later earlier nowhere = nowhere refl refl refl

-- tests of the stream
module _ (s : List ℕ) (p k : ℕ) (a b c : Bool) (ea : a ≡ matches s p k) (eb : b ≡ matches s (p + 2) k) (ec : 2 ≤ p → c ≡ matches s (p - 2) k) (back : c ≡ true → 2 ≤ p) where
  no : {x y : Bool} {A : Type 0} → x ≡ y → x ≡ true → y ≡ false → A
  no e t f = absurd (true≢false (sym t ∙ e ∙ f))

  pub tried : Tried s p k (in_bits (move_by a b c))
  unfolding in_bits
  tried =
      move_cases (λ (v : Move). Tried s p k (in_bits v)) a b c
      (λ t. record { due = λ u. refl; later = λ f u. no ea t f; earlier = λ f g h u. no ea t f; nowhere = λ f g h. no ea t f })
      (λ f t. record { due = λ u. no (sym ea) u f; later = λ g u. refl; earlier = λ g h i u. no eb t h; nowhere = λ g h i. no eb t h })
      (λ f g t. record { due = λ u. no (sym ea) u f; later = λ h u. no (sym eb) u g; earlier = λ h i j u. refl; nowhere = λ h i j. no (ec (back t)) t (j (back t)) })
      (λ f g h. record { due = λ u. refl; later = λ i u. no (sym eb) u g; earlier = λ i j n u. no (sym (ec n)) u h; nowhere = λ i j n. refl })
