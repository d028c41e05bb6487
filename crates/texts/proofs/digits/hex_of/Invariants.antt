-- `hex_of`: each digit so far is that of its place.
-- Assumes nothing.
use Rattle.std.proofs.Common.{◌≡◌, ℕ, ◌<◌, get_or}
use Rattle.texts_rules.specs.Text.{hex_at}
use Rattle.texts.proofs.digits.hex_of.Given as goal

abbrev pub invariant-loop-i : goal.invariant-loop-i
invariant-loop-i l = (k : ℕ) → k < l.i → get_or l.digit-items k 0 ≡ hex_at l.payload k
