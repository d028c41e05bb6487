-- `send`: before each call some bytes are left.
-- Assumes nothing.
use Rattle.std.proofs.Common.{◌<◌, length}
use Rattle.channels.proofs.writing.send.Given as goal

abbrev pub invariant-loop : goal.invariant-loop
invariant-loop g l = l.done < length l.bytes
