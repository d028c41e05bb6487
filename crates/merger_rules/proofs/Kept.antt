-- What a script hands on was pushed and kept. Assumes nothing.
use Rattle.std.proofs.Common.{Option, Some, None, Ok}
use mathlib.Core.Path.{◌≡◌, refl, subst}
use mathlib.Core.Bool.{Bool, true, false, cond, not, ◌||◌}
use mathlib.Core.List.{List, [], ◌∷◌, ◌++◌}
use mathlib.Core.Logic.{inl, inr}
use Prim.Native.Nat.{ℕ, zero, suc, ◌≤◌}
use native.Mathlib.Omega.{arith}
use Rattle.bits.specs.Alls.{All}
use Rattle.bits.proofs.Alls.{all_at, all_set}
use Rattle.bits.proofs.Conds.{cond_both}
use Rattle.merger_rules.specs.declared.Held.{Held}
use Rattle.merger_rules.specs.declared.Freed.{Freed}
use Rattle.merger_rules.specs.declared.Position.{Position}
use Rattle.merger_rules.specs.declared.Chosen.{Chosen}
use Rattle.merger_rules.specs.declared.Keeping.TheVariants.{Kept}
use Rattle.merger_rules.specs.declared.Release.{Release}
use Rattle.merger_rules.specs.Merging.{chosen, View, home_of, order_of, filled, no_position, alone, PushStep, push_of, is_ready, choose_of, choice_of, snapped, is_after, freed_of, ReleaseStep, settle, release_from, release_of}
use Rattle.merger_rules.specs.Scripts.{Call, started, given, releases, push, release}
use Rattle.merger_rules.specs.Origins.{Keeps, Origins}
use Rattle.merger_rules.proofs.Pushes.{push_cases, join_cases, open_cases}
use Rattle.merger_rules.proofs.Inserts.{all_insert}
use Rattle.merger_rules.proofs.Rising.{push_last}
use Rattle.merger_rules.proofs.TakenOut.{release_all}

-- `Taken` is what is known of each frame that was taken in
module _ (Taken : ℕ → Held → Type 0) where
  abbrev pub InPlace : ℕ → Option Held → Type 0
  InPlace s None = Unit {0}
  InPlace s (Some h) = Taken s h

  abbrev pub Both : Position → Type 0
  Both p = InPlace 0 p.primary × InPlace 1 p.alternate

  both_filled : (s : ℕ) (h : Held) (p : Position) → s ≤ 1 → Taken s h → Both p → Both (filled s h p)
  both_filled zero h p k t q = (t, q.1)
  both_filled (suc zero) h p k t q = (q.0, t)
  both_filled (suc (suc s)) h p k t q = absurd (omega arith)

  -- a push: only what it keeps comes in
  pub push_taken : (s : ℕ) (h : Held) (v : View) → ((push_of s h v).answer ≡ Ok Kept → Taken s h) → All Both v.pending → All Both (push_of s h v).next.pending
  push_taken s h v k a =
      push_cases Q s h v (λ _ _. a) (λ _ _. a) (λ _ _. a)
      (λ p i. join_cases Q s h v _ (λ _ _. a)
      (λ _ t. all_set Both v.pending (home_of h.figures.offset v.pending) _ a
      (both_filled s h _ p.stream (t refl) (all_at Both no_position v.pending (home_of h.figures.offset v.pending) a i))))
      (λ p _. open_cases Q s h v (order_of h.figures.offset v.pending) (λ _ _. a)
      (λ _ t. all_insert Both (order_of h.figures.offset v.pending) v.pending (alone s h) a
      (both_filled s h (record { key = h.figures.offset; primary = None; alternate = None }) p.stream (t refl) (tt, tt))))
      k
    where
      Q : PushStep → Type 0
      Q y = (y.answer ≡ Ok Kept → Taken s h) → All Both y.next.pending

  abbrev InChoice : Option Chosen → Type 0
  InChoice None = Unit {0}
  InChoice (Some c) = Taken (cond c.alternate 1 0) c.frame

  choice_taken : (a b : Option Held) → InPlace 0 a → InPlace 1 b → InChoice (choose_of a b)
  choice_taken None None p q = tt
  choice_taken None (Some h) p q = q
  choice_taken (Some h) None p q = p
  choice_taken (Some h) (Some i) p q = cond_both InChoice (h.check || not i.check) (chosen h false) (chosen i true) p q

  -- a release: what it hands on was taken in, and what is handed on after it follows
  abbrev Follows : Option ℕ → List Release → ReleaseStep → Type 0
  Follows last rs y = Origins Taken y.next.last rs → Origins Taken last (given y.answer ++ rs)

  settle_origins : (c : Option Chosen) (f : Freed) (ps : List Position) (last : Option ℕ) (rs : List Release) → InChoice c → Follows last rs (settle c f ps last)
  settle_origins None f ps last rs t o = o
  settle_origins (Some c) f ps last rs t o =
      cond_both (Follows last rs) (is_after last (snapped last c.frame.figures.offset)) _ _ (λ q. (record { frame = c.frame; taken = t; number = refl; offset = refl; matched = refl; errors = refl; moves = refl }, q)) (λ q. q) o

  release_origins : (s₀ s₁ : Option ℕ) (flush : Bool) (l : List Position) (last : Option ℕ) (rs : List Release) → All Both l → Follows last rs (release_from s₀ s₁ flush l last)
  release_origins s₀ s₁ flush [] last rs a o = o
  release_origins s₀ s₁ flush (p ∷ ps) last rs a o =
      cond_both (Follows last rs) (is_ready s₀ s₁ flush p) _ _
      (settle_origins (choice_of p) (freed_of p) ps last rs (choice_taken p.primary p.alternate a.0.0 a.0.1)) (λ q. q) o

  pub origins : (calls : List Call) (v : View) → All Both v.pending → ((s : ℕ) (h : Held) → Keeps calls v s h → Taken s h) → Origins Taken v.last (releases calls v)
  origins [] v a k = tt
  origins (push s h ∷ cs) v a k =
      subst (λ (l : Option ℕ). Origins Taken l (releases cs (push_of s h v).next)) (push_last s h v)
      (origins cs (push_of s h v).next (push_taken s h v (λ e. k s h (inl (refl, refl, e))) a) (λ t i q. k t i (inr q)))
  origins (release s₀ s₁ flush ∷ cs) v a k =
      release_origins s₀ s₁ flush v.pending v.last (releases cs (release_of s₀ s₁ flush v).next) a
      (origins cs (release_of s₀ s₁ flush v).next (release_all Both s₀ s₁ flush v.pending v.last a) (λ t i q. k t i (inr q)))

pub from_kept : (calls : List Call) → Origins (Keeps calls started) None (releases calls started)
from_kept calls = origins (Keeps calls started) calls started tt (λ s h k. k)
