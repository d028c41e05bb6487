-- Nothing is ready: by the first position that waits, and by how far the streams are settled.
-- Assumes nothing.
use Rattle.std.proofs.Common.{Option, Some, None, Result, Ok, Err}
use mathlib.Core.Path.{◌≡◌, refl, sym, ap, subst, ◌∙◌}
use mathlib.Core.Bool.{Bool, true, false, true≢false, cond, ◌&&◌}
use mathlib.Core.List.{List, [], ◌∷◌}
use Prim.Native.Nat.{ℕ, zero, suc, ◌<◌}
use native.Mathlib.Omega.{arith}
use lib.ListN.{get_or, take, drop}
use Rattle.merger_rules.specs.Merging.{no_position, passed, is_ready, choice_of, freed_of, none_freed, ReleaseStep, release_step, view, settle, release_from}
use Rattle.merger_rules.specs.declared.Position.{Position}
use Rattle.merger_rules.specs.declared.Released.TheVariants.{NothingReady}
use Rattle.merger.specs.States.{view_of, ValidMerger}
use Rattle.merger.specs.declared.Merger.{Merger}
use Rattle.merger.proofs.Gave.{len, split, release_empty, release_not}
use Rattle.merge_stretches.specs.Stretches.{settled_by}
use Rattle.merging_rules.specs.Accounts.{Idle}
use Rattle.merging_rules.proofs.Takings.{taken_by, settle_takes, flush_takes}
use Rattle.bits.specs.declared.Refusal.{Refusal}
use Rattle.merger_rules.specs.declared.Held.{Held}

-- ---- by the first position
abbrev released : Bool → Position → List Position → Option ℕ → ReleaseStep
released b p ps last = cond b (settle (choice_of p) (freed_of p) ps last) (release_step NothingReady none_freed (view (p ∷ ps) last))

not_taken : (b : Bool) (p : Position) (ps : List Position) (last : Option ℕ) → (released b p ps last).answer ≡ NothingReady → b ≡ false
not_taken true p ps last e = absurd (omega (arith, settle_takes (choice_of p) (freed_of p) ps last, ap taken_by e))
not_taken false p ps last e = refl

module _ (m : Merger) (g : ValidMerger m) (s₀ s₁ : Option ℕ) (flush : Bool) where
  abbrev first : Position
  first = get_or m.positions 0 no_position

  pub idle_empty : m.n ≡ 0 → Idle s₀ s₁ flush m
  idle_empty e = sym (release_empty m g s₀ s₁ flush e).answers

  pub idle_first : (t : Bool) → 0 < m.n → t ≡ is_ready s₀ s₁ flush first → t ≡ false → Idle s₀ s₁ flush m
  idle_first t h e f = sym (release_not m g s₀ s₁ flush t h f e).answers

  pub first_idle : (t : Bool) → 0 < m.n → t ≡ is_ready s₀ s₁ flush first → Idle s₀ s₁ flush m → t ≡ false
  first_idle t h e i =
      e ∙ not_taken (is_ready s₀ s₁ flush first) first (drop 1 (take m.n m.positions)) m.last
      (subst (λ (l : List Position). (release_from s₀ s₁ flush l m.last).answer ≡ NothingReady) (split m g s₀ s₁ flush h) i)

-- a flush leaves nothing
pub all_out : (m : Merger) → ValidMerger m → (s₀ s₁ : Option ℕ) → Idle s₀ s₁ true m → m.n ≡ 0
all_out m g s₀ s₁ i = omega (arith, len m g, flush_takes s₀ s₁ (view_of m).pending m.last (ap taken_by i))

-- ---- by how far the streams are settled
-- a stream that has ended has moved past everything
past : (n : ℕ) (a : Result Unit Refusal) (c k : ℕ) (p : Option Held) → passed (Some c) k p ≡ true → passed (settled_by n a c) k p ≡ true
unfolding settled_by
past zero a c k None h = refl
past zero a c k (Some f) h = refl
past (suc n) (Ok u) c k p h = h
past (suc n) (Err f) c k None h = refl
past (suc n) (Err f) c k (Some g) h = refl

both_true : (x y x' y' : Bool) → (x ≡ true → x' ≡ true) → (y ≡ true → y' ≡ true) → (x' && y') ≡ false → (x && y) ≡ false
both_true false y x' y' f g e = refl
both_true true false x' y' f g e = refl
both_true true true x' y' f g e = absurd (true≢false (sym (ap (λ (b : Bool). b && y') (f refl) ∙ g refl) ∙ e))

module _ (n : ℕ) (a : Result Unit Refusal) (c n' : ℕ) (a' : Result Unit Refusal) (c' : ℕ) where
  earlier_not : (l : List Position) (last : Option ℕ) → (release_from (settled_by n a c) (settled_by n' a' c') false l last).answer ≡ NothingReady → (release_from (Some c) (Some c') false l last).answer ≡ NothingReady
  earlier_not [] last e = refl
  earlier_not (p ∷ ps) last e =
      ap (λ (b : Bool). (released b p ps last).answer)
      (both_true _ _ _ _ (past n a c p.key p.primary) (past n' a' c' p.key p.alternate) (not_taken (is_ready (settled_by n a c) (settled_by n' a' c') false p) p ps last e))

  -- nothing is ready at the clocks, where nothing is at how far the streams are settled
  pub idle_at_clocks : (m : Merger) → Idle (settled_by n a c) (settled_by n' a' c') false m → Idle (Some c) (Some c') false m
  idle_at_clocks m e = earlier_not (view_of m).pending m.last e
