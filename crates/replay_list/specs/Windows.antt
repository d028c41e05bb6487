-- Where a case lies in the window.
-- Assumes nothing.
use Rattle.std.specs.Prelude.{ℕ, ◌-◌, ◌≤◌, List, take, drop}
use Rattle.replay_list.specs.declared.list.Case.{Case}

-- the case's parts end where the bytes read do, and these lie in a window of n bytes
abbrev pub Within : ℕ → Case → Type 0
Within n c = (c.input ≤ c.middle) × (c.middle ≤ c.end) × (c.expected ≤ c.next) × (c.next ≤ c.end) × (c.end ≤ n)

-- a case's input: the bytes of the window from `input` up to `middle`
abbrev pub input_in : List ℕ → Case → List ℕ
input_in window c = take (c.middle - c.input) (drop c.input window)
