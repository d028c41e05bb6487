-- `sync_pushes::quiet_of` meets its contract.
-- Assumes nothing.
use mathlib.Core.Path.{◌≡◌, sym, ap, ◌∙◌}
use mathlib.Core.List.{List}
use mathlib.Core.Bool.{Bool, true, false, cond}
use Prim.Native.Nat.{ℕ, ◌-◌, ◌/◌}
use lib.ListN.{length}
use Rattle.sync_rules.specs.State.{pending}
use Rattle.sync_rules.specs.Pushes.{quiet}
use Rattle.sync_numbers.specs.declared.numbers.Numbers.{Numbers}
use Rattle.sync_numbers.specs.View.{view_of}
use Rattle.sync_numbers.proofs.Pendings.{pending_is}
use Rattle.sync_pushes.proofs.quiet_of.Goals as goal
use Rattle.sync_pushes.proofs.quiet_of.Goals.{then-k, else-k}

is_quiet : (bits reliabilities : List ℕ) (k : Numbers) (b : Bool) (r : ℕ) → k.figures.locked ≡ b → r ≡ (cond b 383 1151 - k.pending) / 2 → r ≡ quiet (view_of bits reliabilities k)
unfolding quiet
is_quiet bits reliabilities k b r e h =
    h ∙ ap (λ (n : ℕ). (cond b 383 1151 - n) / 2) (sym (pending_is bits reliabilities k))
    ∙ ap (λ (t : Bool). (cond t 383 1151 - length (pending (view_of bits reliabilities k))) / 2) (sym e)

pub returns : goal.returns
returns c = λ bits reliabilities.
    elim c.if-k.branch [
      | then-k w ↦ is_quiet bits reliabilities _ true _ w.if-k.true (ap (λ (n : ℕ). n / 2) (c.saturating_sub.ensures ∙ ap (λ (n : ℕ). n - c.args.k.pending) w.idle-is))
      | else-k w ↦ is_quiet bits reliabilities _ false _ w.if-k.false (ap (λ (n : ℕ). n / 2) (c.saturating_sub.ensures ∙ ap (λ (n : ℕ). n - c.args.k.pending) w.idle-is))
    ]
