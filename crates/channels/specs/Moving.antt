-- What a reading gives, by what its calls moved.
-- Assumes nothing.
use Rattle.std.specs.Prelude.{◌≡◌, List, ℕ, ◌<◌, length, Option, Some, None, Result, Ok, Err, IsSome}
use Rattle.std.specs.declared.io.Error.{Error}
use Rattle.io.specs.Counts.{IsPrefixLen}
use Rattle.channels.specs.declared.reading.Filled.{Filled}

-- a read that moved n bytes gives them where there are any, and else says that the input has ended
abbrev pub Gives : ℕ → Option ℕ → Type 0
Gives n (Some m) = (0 < n) × (m ≡ n)
Gives n None = n ≡ 0

-- how many bytes came
abbrev pub size_of : Result (Option ℕ) Error → ℕ
size_of (Ok (Some n)) = n
size_of (Ok None) = 0
size_of (Err reason) = 0

-- what came is a byte or more, and lies in the memory that was lent
abbrev pub CameInto : List ℕ → Result (Option ℕ) Error → Type 0
CameInto room (Ok (Some n)) = (0 < n) × IsPrefixLen n room
CameInto room (Ok None) = Unit {0}
CameInto room (Err reason) = Unit {0}

-- memory is filled up to its end at most, and a read that failed came before the end
abbrev pub FillsTo : List ℕ → Filled → Type 0
FillsTo room f = IsPrefixLen f.bytes room × (IsSome f.failed → f.bytes < length room)
