-- `put_frames` puts the number of frames, and one frame after the other.
-- Assumes nothing.
use Rattle.std.proofs.Common.{◌≡◌, ap, ◌∙◌, ◌++◌, ◌<◌, take, length, min, List, ℕ}
use Rattle.std.proofs.lemmas.List.{take_min}
use native.Mathlib.Omega.{arith}
use Rattle.replay_bytes.specs.Bytes.{last_bytes}
use Rattle.replay_bytes.proofs.Puts.{put_as, put_more, put_none, same_long}
use Rattle.sync_rules.specs.declared.Head.{Head}
use Rattle.replay_frames.specs.Frames.{frame_bytes}
use Rattle.replay_frames.proofs.Frames.{frame_more, frame_none}
use Rattle.replay_frames.proofs.put_frames.Goals as goal

pub loop-k-init : goal.loop-k-init
loop-k-init c =
    let n = c.put_number-length.result in
    put_as (put_none c.put_number-length.new.out n n (omega (arith, c.put_number-length.ensures.goes_on, same_long c.put_number-length.ensures))) (frame_none c.args.soft c.args.room.now 0)

pub loop-k-preserved : goal.loop-k-preserved
loop-k-preserved c =
    let heads : List Head = c.args.heads in
    let within : c.loop-k.k < length heads = omega (arith, c.loop-k-test.true, c.min-k-end.ensures) in
    put_as (put_more c.loop-k.invariant c.put_frame-length.ensures) (frame_more c.args.soft c.args.room.now heads c.loop-k.k _ within)

pub returns : goal.returns
returns c =
    let heads : List Head = c.args.heads in
    let all : c.loop-k.k ≡ min c.args.count (length heads) = omega (arith, c.loop-k-test.false, c.loop-k.auto.k-end, c.min-k-end.ensures) in
    put_as (put_more c.put_number-length.ensures c.loop-k.invariant)
    (ap (λ (l : List Head). last_bytes 1 c.args.count ++ frame_bytes c.args.soft c.args.room.now 0 l) (ap (λ (n : ℕ). take n heads) all ∙ take_min c.args.count heads))
