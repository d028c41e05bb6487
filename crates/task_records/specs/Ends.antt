-- The last line of a whole input's speech.
-- Assumes nothing.
use Rattle.std.specs.Prelude.{List, ℕ, ◌-◌}
use Rattle.lines_rules.specs.Text.{end_text}

-- `end FRAMES ACCEPTED REFUSED`
abbrev pub spoken_end : ℕ → ℕ → List ℕ
spoken_end frames accepted = end_text frames accepted (frames - accepted)
