-- How much was taken of what was handed to an open file.
-- Assumes nothing.
use Rattle.std.specs.Prelude.{◌≡◌, true, false, ℕ, ◌+◌, ◌≤◌, ◌<◌}
use Rattle.channels.specs.declared.writing.Sent.{Sent}

abbrev pub none_sent : Sent
none_sent = record { bytes = 0; whole = true }

-- n more bytes were handed to the file, behind what was sent before: they count as far as they were taken, and it stays whole exactly where all were
pub record PutBy (n : ℕ) (before after : Sent) : Type 0 where
  -- "nothing is written after a hole"
  pub stopped : before.whole ≡ false → after ≡ before
  pub more : before.bytes ≤ after.bytes
  pub few : after.bytes ≤ before.bytes + n
  pub all : after.whole ≡ true → (before.whole ≡ true) × (after.bytes ≡ before.bytes + n)
  pub part : before.whole ≡ true → after.whole ≡ false → after.bytes < before.bytes + n
