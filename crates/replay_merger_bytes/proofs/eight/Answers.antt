-- `eight` reads eight bytes.
-- Assumes nothing.
use mathlib.Core.Path.{ap, ◌∙◌}
use Rattle.bits.specs.BigEndian.{value_of}
use Rattle.replay_merger_bytes.proofs.Reading.{eight_taken}
use Rattle.replay_merger_bytes.proofs.eight.Goals as goal

pub returns : goal.returns
returns c = c.number.ensures ∙ ap value_of (eight_taken c.args.input.now c.args.from c.requires)
