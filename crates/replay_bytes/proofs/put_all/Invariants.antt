-- `put_all`: the bytes so far are put.
-- Assumes nothing.
use Rattle.std.proofs.Common.{take}
use Rattle.replay_bytes.specs.Bytes.{Put}
use Rattle.replay_bytes.proofs.put_all.Given as goal

abbrev pub invariant-loop-x : goal.invariant-loop-x
invariant-loop-x l = Put l.fn.out l.place (take l.x-index l.bytes) l.out l.next
