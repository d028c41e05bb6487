-- The offsets that a script hands on rise by a whole frame or more, and none comes twice. Assumes nothing.
use Rattle.std.proofs.Common.{Option, Some, None}
use mathlib.Core.Path.{◌≡◌, refl, subst}
use mathlib.Core.Bool.{Bool}
use mathlib.Core.List.{List, [], ◌∷◌, ◌++◌}
use Prim.Native.Nat.{ℕ, zero, suc, ◌+◌, ◌<◌, ◌≤◌}
use native.Mathlib.Nat.{not-suc-le-zero, le_of_suc-le-suc}
use native.Mathlib.Omega.{arith}
use lib.ListN.{length}
use Rattle.bits.proofs.Conds.{cond_cases, cond_both}
use Rattle.merger_rules.specs.declared.Held.{Held}
use Rattle.merger_rules.specs.declared.Freed.{Freed}
use Rattle.merger_rules.specs.declared.Position.{Position}
use Rattle.merger_rules.specs.declared.Chosen.{Chosen}
use Rattle.merger_rules.specs.declared.Release.{Release}
use Rattle.merger_rules.specs.declared.Released.{Released}
use Rattle.merger_rules.specs.declared.Released.TheVariants.{Frame, PassedOver, NothingReady}
use Rattle.merger_rules.specs.Merging.{View, order_of, PushStep, push_of, is_ready, choice_of, snapped, is_after, freed_of, ReleaseStep, settle, release_from, release_of}
use Rattle.merger_rules.specs.Scripts.{Call, given, releases, push, release}
use Rattle.merger_rules.specs.Offsets.{Advances, Rising, offset_at}
use Rattle.merger_rules.proofs.Pushes.{push_cases, join_cases, open_cases}
use Rattle.merger_rules.proofs.Snaps.{clear}

settle_advances : (c : Option Chosen) (f : Freed) (ps : List Position) (last : Option ℕ) → Advances last (settle c f ps last).answer (settle c f ps last).next.last
settle_advances None f ps last = refl
settle_advances (Some c) f ps last =
    cond_cases (λ (y : ReleaseStep). Advances last y.answer y.next.last) (is_after last (snapped last c.frame.figures.offset)) _ _
    (λ e. (clear last c.frame.figures.offset e, refl)) (λ e. refl)

from_advances : (s₀ s₁ : Option ℕ) (flush : Bool) (l : List Position) (last : Option ℕ) → Advances last (release_from s₀ s₁ flush l last).answer (release_from s₀ s₁ flush l last).next.last
from_advances s₀ s₁ flush [] last = refl
from_advances s₀ s₁ flush (p ∷ ps) last =
    cond_both (λ (y : ReleaseStep). Advances last y.answer y.next.last) (is_ready s₀ s₁ flush p) _ _ (settle_advances (choice_of p) (freed_of p) ps last) refl

-- each release gives an offset above the last one's, which is then the last
pub advances : (s₀ s₁ : Option ℕ) (flush : Bool) (v : View) → Advances v.last (release_of s₀ s₁ flush v).answer (release_of s₀ s₁ flush v).next.last
advances s₀ s₁ flush v = from_advances s₀ s₁ flush v.pending v.last

-- a push leaves the last release
pub push_last : (s : ℕ) (h : Held) (v : View) → (push_of s h v).next.last ≡ v.last
push_last s h v =
    push_cases Q s h v (λ _. refl) (λ _. refl) (λ _. refl) (λ _ _. join_cases Q s h v _ (λ _. refl) (λ _. refl)) (λ _ _. open_cases Q s h v (order_of h.figures.offset v.pending) (λ _. refl) (λ _. refl))
  where
    Q : PushStep → Type 0
    Q y = y.next.last ≡ v.last

rise : (a : Released) (last next : Option ℕ) (rs : List Release) → Advances last a next → Rising next rs → Rising last (given a ++ rs)
rise (Frame r) last next rs a h = (a.0, subst (λ (l : Option ℕ). Rising l rs) a.1 h)
rise PassedOver last next rs a h = subst (λ (l : Option ℕ). Rising l rs) a h
rise NothingReady last next rs a h = subst (λ (l : Option ℕ). Rising l rs) a h

-- the offsets that any script hands on rise strictly
pub rising : (calls : List Call) (v : View) → Rising v.last (releases calls v)
rising [] v = tt
rising (push s h ∷ cs) v = subst (λ (l : Option ℕ). Rising l (releases cs (push_of s h v).next)) (push_last s h v) (rising cs (push_of s h v).next)
rising (release s₀ s₁ flush ∷ cs) v =
    rise (release_of s₀ s₁ flush v).answer v.last (release_of s₀ s₁ flush v).next.last (releases cs (release_of s₀ s₁ flush v).next)
    (advances s₀ s₁ flush v) (rising cs (release_of s₀ s₁ flush v).next)

-- no offset comes twice: the j-th release lies above the i-th
above_last : (l : ℕ) (rs : List Release) (j : ℕ) → Rising (Some l) rs → j < length rs → l < offset_at rs j
above_last l [] j r k = absurd (not-suc-le-zero k)
above_last l (x ∷ rs) zero r k = let h : l + 384 ≤ x.figures.offset = r.0.0 in omega arith
above_last l (x ∷ rs) (suc j) r k =
    let h : l + 384 ≤ x.figures.offset = r.0.0 in
    let g : x.figures.offset < offset_at rs j = above_last x.figures.offset rs j r.1 (le_of_suc-le-suc k) in
    omega arith

pub apart : (last : Option ℕ) (rs : List Release) (i j : ℕ) → Rising last rs → i < j → j < length rs → offset_at rs i < offset_at rs j
apart last [] i j r h k = absurd (not-suc-le-zero k)
apart last (x ∷ rs) i zero r h k = absurd (not-suc-le-zero h)
apart last (x ∷ rs) zero (suc j) r h k = above_last x.figures.offset rs j r.1 (le_of_suc-le-suc k)
apart last (x ∷ rs) (suc i) (suc j) r h k = apart (Some x.figures.offset) rs i j r.1 (le_of_suc-le-suc h) (le_of_suc-le-suc k)
