-- Document 01, 'Journal': "12 corrected bits 0-32". What the hard decoder corrects stays within it: 8 coded bits, and 24 in the three bytes that a repair
-- of the tail may change; joint: "distance plus bits of bytes 32-41 at most 12".
-- Assumes nothing.
use Rattle.std.specs.Prelude.{List, ◌≡◌, ℕ, ◌≤◌}
use Rattle.voice_rules.specs.declared.Stage.{Stage}
use Rattle.voice_rules.specs.Calls.{accepted, decode_answer}

-- of every table and every envelope
abbrev pub FewCorrected : Type 0
FewCorrected = (table envelope : List ℕ) (s : Stage) (n : ℕ) (payload : List ℕ) → decode_answer table envelope ≡ accepted s n payload → n ≤ 32
