-- What the tables that a caller lends must be. Crates above only pass it on: they cite it by name and use nothing of it.
-- Assumes nothing.
use Rattle.std.specs.Prelude.{◌≡◌, List, ℕ, ◌<◌, get_or}
use Rattle.field_rules.specs.Field.{power, Log}

-- A list is the table of the first 510 powers; the table of the 256 bytes' logarithms.
pub record Powers (l : List ℕ) : Type 0 where
  pub at : (i : ℕ) → i < 510 → get_or l i 0 ≡ power i

pub record Logs (l : List ℕ) : Type 0 where
  pub at : (a : ℕ) → a < 256 → Log a (get_or l a 0)
