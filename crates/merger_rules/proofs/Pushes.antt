-- A push, case by case: what holds of each answer where it is given holds of the push's. Assumes nothing.
use Rattle.std.proofs.Common.{Ok, Err}
use mathlib.Core.Path.{◌≡◌}
use mathlib.Core.Bool.{true, false}
use Prim.Native.Nat.{ℕ, ◌^◌, ◌<◌, ◌≤◌}
use lib.Dec.{ltb}
use lib.ListN.{length, get_or, set}
use borrow.Author.Tests.{ltb-true, ltb-false}
use Rattle.bits.specs.declared.Refusal.TheVariants.{Stream, Offset, Positions}
use Rattle.bits.proofs.Conds.{cond_cases}
use Rattle.merger_rules.specs.declared.Held.{Held}
use Rattle.merger_rules.specs.declared.Keeping.TheVariants.{Kept, Double, Late}
use Rattle.merger_rules.specs.Merging.{View, view, is_late, is_full, home_of, order_of, insert_at, taken, filled, no_position, alone, PushStep, push_step, join_of, open_of, push_of}

-- the frame is neither refused by 7 or 8 nor late
pub record Passes (s : ℕ) (h : Held) (v : View) : Type 0 where
  pub stream : s ≤ 1
  pub offset : h.figures.offset ≤ 2 ^ 42
  pub time : is_late v.last h.figures.offset ≡ false

module _ (Q : PushStep → Type 0) (s : ℕ) (h : Held) (v : View) where
  pub push_cases : (1 < s → Q (push_step (Err Stream) v)) → (2 ^ 42 < h.figures.offset → Q (push_step (Err Offset) v))
      → (is_late v.last h.figures.offset ≡ true → Q (push_step (Ok Late) v))
      → (Passes s h v → home_of h.figures.offset v.pending < length v.pending → Q (join_of s h v (home_of h.figures.offset v.pending)))
      → (Passes s h v → length v.pending ≤ home_of h.figures.offset v.pending → Q (open_of s h v (order_of h.figures.offset v.pending))) → Q (push_of s h v)
  push_cases stream offset late joins opens =
      cond_cases Q (ltb 1 s) _ _ (λ e. stream (ltb-true _ _ e)) (λ a.
      cond_cases Q (ltb (2 ^ 42) h.figures.offset) _ _ (λ e. offset (ltb-true _ _ e)) (λ b.
      cond_cases Q (is_late v.last h.figures.offset) _ _ late (λ c.
      let p : Passes s h v = record { stream = ltb-false _ _ a; offset = ltb-false _ _ b; time = c } in
      cond_cases Q (ltb (home_of h.figures.offset v.pending) (length v.pending)) _ _ (λ e. joins p (ltb-true _ _ e)) (λ e. opens p (ltb-false _ _ e)))))

  module _ (at : ℕ) where
    pub join_cases : (taken s (get_or v.pending at no_position) ≡ true → Q (push_step (Ok Double) v))
        → (taken s (get_or v.pending at no_position) ≡ false → Q (push_step (Ok Kept) (view (set v.pending at (filled s h (get_or v.pending at no_position))) v.last))) → Q (join_of s h v at)
    join_cases double kept = cond_cases Q (taken s (get_or v.pending at no_position)) _ _ double kept

    pub open_cases : (is_full v.pending ≡ true → Q (push_step (Err Positions) v)) → (is_full v.pending ≡ false → Q (push_step (Ok Kept) (view (insert_at at (alone s h) v.pending) v.last)))
        → Q (open_of s h v at)
    open_cases full kept = cond_cases Q (is_full v.pending) _ _ full kept
