-- What a synchroniser has counted, and all that changes it. The struct `StreamFigures` (src/lib.rt) names the figures one by one.
-- Assumes nothing.
use Rattle.std.specs.Prelude.{Bool, true, false, cond, ◌||◌, ℕ, ◌+◌, ltb}
use Rattle.bits.specs.Sizes.{frame_bits}
use Rattle.sync_rules.specs.declared.StreamFigures.{StreamFigures}

abbrev pub no_figures : StreamFigures
no_figures = record { taken = 0; clock = 0; later = 0; earlier = 0; frames = 0; synchronised = 0; failures = 0; locked = false; soft = false }

-- a dibit taken, of a soft push or a hard one
abbrev pub dibit_taken : Bool → StreamFigures → StreamFigures
dibit_taken soft f = record { taken = f.taken + 1; clock = f.clock; later = f.later; earlier = f.earlier; frames = f.frames; synchronised = f.synchronised; failures = f.failures; locked = f.locked; soft = f.soft || soft }

-- so many slips more followed to a later symbol and to an earlier one
abbrev pub slips_counted : ℕ → ℕ → StreamFigures → StreamFigures
slips_counted later earlier f = record { taken = f.taken; clock = f.clock; later = f.later + later; earlier = f.earlier + earlier; frames = f.frames; synchronised = f.synchronised; failures = f.failures; locked = f.locked; soft = f.soft }

-- bits passed in a search, which found a lock or did not
abbrev pub bits_passed : ℕ → Bool → StreamFigures → StreamFigures
bits_passed bits found f = record { taken = f.taken; clock = f.clock + bits; later = f.later; earlier = f.earlier; frames = f.frames; synchronised = f.synchronised; failures = cond found 0 f.failures; locked = found; soft = f.soft }

-- a frame sent, matched or not; lock ends with the third in a row that is not matched
abbrev pub frame_sent : Bool → StreamFigures → StreamFigures
frame_sent matched f = record { taken = f.taken; clock = f.clock + frame_bits; later = f.later; earlier = f.earlier; frames = f.frames + 1; synchronised = f.synchronised + cond matched 1 0; failures = cond matched 0 (f.failures + 1); locked = cond matched true (ltb (f.failures + 1) 3); soft = f.soft }
