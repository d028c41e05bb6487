-- What a call of read or write did.
-- Assumes nothing.
use Rattle.std.specs.Prelude.{◌≡◌, ℕ, ◌≤◌, Result, Ok, Err}
use Rattle.std.specs.IoError.{error_kind}
use Rattle.std.specs.declared.io.Error.{Error}
use Rattle.std.specs.declared.io.ErrorKind.TheVariants.{Interrupted, WouldBlock}
use Rattle.channels_steps.specs.declared.calls.Call.{Call}
use Rattle.channels_steps.specs.declared.calls.Call.TheVariants.{Moved, Again, Wait, Failed}

-- a call that failed: by an interruption (EINTR, 4) it is made again, where it would have had to wait (EAGAIN, 11) it is waited for, and any other reason
-- is a failure, which keeps the reason
abbrev pub FailsFor : Error → Call → Type 0
FailsFor reason (Moved n) = ⊥
FailsFor reason Again = error_kind reason ≡ Interrupted
FailsFor reason Wait = error_kind reason ≡ WouldBlock
FailsFor reason (Failed kept) = (error_kind reason ≡ Interrupted → ⊥) × (error_kind reason ≡ WouldBlock → ⊥) × (kept ≡ reason)

-- what a call did, by its answer: it counts the bytes that it moved, or says why it failed
abbrev pub Told : Result ℕ Error → Call → Type 0
Told (Ok k) call = call ≡ Moved k
Told (Err reason) call = FailsFor reason call

-- a call that was handed so many bytes moved at most these
abbrev pub Within : ℕ → Call → Type 0
Within size (Moved n) = n ≤ size
Within size Again = Unit {0}
Within size Wait = Unit {0}
Within size (Failed reason) = Unit {0}
