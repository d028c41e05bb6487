-- `all_released` tells the source's whole release: turn by turn a position less is pending, so that it ends before a seventeenth has gone.
-- Assumes nothing.
use Rattle.std.proofs.Common.{◌≡◌, ◌∙◌, ◌≤◌, true, length}
use native.Mathlib.Omega.{arith}
use Rattle.replay_bytes.specs.Bytes.{Put}
use Rattle.replay_bytes.proofs.Puts.{same_long}
use Rattle.merger.specs.States.{view_of}
use Rattle.merger_rules.specs.Merging.{release_of}
use Rattle.merger_rules.specs.Scripts.{given}
use Rattle.replay_merger.specs.Merges.{frames_bytes, is_gone}
use Rattle.replay_merger.proofs.Steps.{frame_left, none_left, nothing_put}
use Rattle.replay_merger.proofs.Telling.{told}
use Rattle.replay_merger.proofs.Wholes.{ends, goes_on, part_of, starts, whole}
use Rattle.replay_merger.proofs.all_released.Goals as goal
use Rattle.replay_merger.proofs.all_released.Goals.{in-Frame, in-PassedOver}

pub loop-gone-init : goal.loop-gone-init
loop-gone-init c = (c.requires, starts c.args.first c.args.second c.args.flush (view_of c.args.m) c.put-length.ensures)

pub loop-gone-preserved : goal.loop-gone-preserved
loop-gone-preserved c =
    let args = c.args in
    let v = view_of c.loop-gone.merger in
    let y = release_of args.first args.second args.flush v in
    let gave = c.release-after.ensures in
    let so_far = c.loop-gone.invariant.1 in
    let place : c.loop-gone.length ≤ length c.loop-gone.out = omega (arith, so_far.puts.goes_on, same_long so_far.puts) in
    let went : (is_gone y.answer ≡ true) × Put c.loop-gone.out c.loop-gone.length (frames_bytes (given y.answer)) c.match-after.out c.match-after.length =
    elim c.match-after.branch [ in-Frame w ↦ frame_left gave.answers w.out-is w.length-is w.in-Frame.is w.put_release-length.ensures | in-PassedOver w ↦ none_left gave.answers w.out-is w.length-is w.in-PassedOver.is place ] in
    (gave.valid, goes_on args.first args.second args.flush y so_far (part_of args.first args.second args.flush v) went.0 went.1 gave.leaves)

pub returns-in-NothingReady : goal.returns-in-NothingReady
returns-in-NothingReady c =
    let args = c.args in
    let v = view_of c.loop-gone.merger in
    let y = release_of args.first args.second args.flush v in
    let gave = c.release-after.ensures in
    let so_far = c.loop-gone.invariant.1 in
    let place : c.loop-gone.length ≤ length c.loop-gone.out = omega (arith, so_far.puts.goes_on, same_long so_far.puts) in
    let stayed = nothing_put {out = c.loop-gone.out} {to = c.loop-gone.length} gave.answers c.in-NothingReady.is place in
    let all = ends args.first args.second args.flush y c.put-length.ensures so_far (part_of args.first args.second args.flush v) stayed.0 stayed.1 c.put.ensures in
    told _ (whole args.first args.second args.flush (view_of args.m)).next gave.valid (gave.leaves ∙ all.0) all.1
