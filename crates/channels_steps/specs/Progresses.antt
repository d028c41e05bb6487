-- Where a writing stands after a call, and within its bytes.
-- Assumes nothing.
use Rattle.std.specs.Prelude.{◌≡◌, ℕ, ◌+◌, ◌<◌}
use Rattle.channels_steps.specs.declared.calls.Call.{Call}
use Rattle.channels_steps.specs.declared.calls.Call.TheVariants.{Moved, Again, Wait, Failed}
use Rattle.channels_steps.specs.declared.progress.Progress.{Progress}
use Rattle.channels_steps.specs.declared.progress.Progress.TheVariants.{Left, Whole, Stuck, Failed as NotWritten}

-- a call took n more bytes of a writing of so many, of which some were taken: all are written only where as many were taken as there are
abbrev pub Takes : ℕ → ℕ → ℕ → Progress → Type 0
Takes size done n (Left d) = (0 < n) × (d ≡ done + n) × (d < size)
Takes size done n (Whole d) = (0 < n) × (d ≡ done + n) × (d ≡ size)
Takes size done n (Stuck d) = (n ≡ 0) × (d ≡ done)
Takes size done n (NotWritten d reason) = ⊥

-- how a writing goes on after a call
abbrev pub Advances : ℕ → ℕ → Call → Progress → Type 0
Advances size done (Moved n) p = Takes size done n p
Advances size done Again p = p ≡ Left done
Advances size done Wait p = p ≡ Left done
Advances size done (Failed reason) p = p ≡ NotWritten done reason

-- how many bytes were taken
abbrev pub taken_of : Progress → ℕ
taken_of (Left d) = d
taken_of (Whole d) = d
taken_of (Stuck d) = d
taken_of (NotWritten d reason) = d

-- a writing of so many bytes stands within them, and at their end only where it is whole
abbrev pub StandsAt : ℕ → Progress → Type 0
StandsAt size (Left d) = d < size
StandsAt size (Whole d) = d ≡ size
StandsAt size (Stuck d) = d < size
StandsAt size (NotWritten d reason) = d < size
