-- The end of the stream, and quiet stretches, over histories of calls.
-- Assumes nothing.
use mathlib.Core.Path.{◌≡◌, refl, sym, ap, ◌∙◌, subst}
use mathlib.Core.List.{List, []}
use Prim.Native.Nat.{ℕ, ◌+◌, ◌*◌, ◌≤◌, ◌^◌}
use native.Mathlib.Omega.{arith}
use lib.IntN.{ℤ, pos, ◌+ℤ◌}
use lib.ListN.{length}
use Rattle.sync.specs.declared.Synchroniser.{Synchroniser}
use Rattle.sync.specs.View.{ValidSynchroniser, view}
use Rattle.sync_call_rules.specs.Calls.{accepted, state_of, shown_as}
use Rattle.sync_call_rules.specs.Statements.{end_calls, quiet_calls}
use Rattle.sync_rules.specs.State.{State, pending, net_slip, stream_end}
use Rattle.sync_rules.specs.Frames.{Frame}
use Rattle.sync_rules.specs.Pushes.{run}
use Rattle.sync_rules.proofs.Reaching.{end_rule_lem}
use Rattle.sync_rules.proofs.Stillness.{quiet_rule_lem}
use Rattle.sync_numbers.proofs.Pendings.{pending_is}
use Rattle.sync_call_rules.proofs.Histories.{follows}

-- a call's state ends below 2^42
pub end_low : (s : Synchroniser) → ValidSynchroniser s → stream_end (view s) ≤ 2 ^ 42
end_low s v = omega (arith, pending_is s.bits s.reliabilities s.numbers, v.steady.low, v.steady.sound.taken_few)

pub end_calls_lem : end_calls
end_calls_lem s v e cs h =
    let f = follows cs s v h in
    let m : view (state_of s cs) ≡ (run (accepted cs) (view s)).next = f.next in
    let n : view (state_of s cs) ≡ (run (accepted cs) _).next = m ∙ ap (λ (z : State). (run (accepted cs) z).next) e in
    record {
      bits = end_rule_lem (accepted cs) ∙ ap (λ (z : State). pos (stream_end z) +ℤ net_slip z) (sym n);
      low = end_low (state_of s cs) f.valid;
    }

pub quiet_calls_lem : quiet_calls
unfolding shown_as
quiet_calls_lem s v cs h k =
    let f = follows cs s v h in
    let q = (quiet_rule_lem (view s)).still (accepted cs) k in
    record {
      handed = f.sent ∙ ap shown_as q.sent;
      clock = ap (λ (z : State). z.figures.clock) f.next ∙ q.clock;
      locked = ap (λ (z : State). z.figures.locked) f.next ∙ q.locked;
    }
