-- The lines of speech go through frames one after the other, and those of three frames fit.
-- Assumes nothing.
use Rattle.std.proofs.Common.{Option, Result, Ok, Err}
use mathlib.Core.List.{List, [], ◌∷◌}
use Prim.Native.Nat.{ℕ, ◌*◌, ◌≤◌}
use native.Mathlib.Omega.{arith}
use lib.ListN.{length, length-append}
use Rattle.bits.specs.Refusals.{number_of}
use Rattle.journal_rules.specs.Gaps.{Piece, pieces_from}
use Rattle.journal_rules.specs.declared.Body.{Body}
use Rattle.journal_rules.specs.declared.Body.TheVariants.{Frame, Gap}
use Rattle.lines_rules.proofs.Lengths.{gap_short, refused_short, speech_short}
use Rattle.recorder_rules.specs.Makings.{Sequential, untried, frames_of, rendered}
use Rattle.recorder_rules.proofs.Laying.{rendered_none, rendered_more, pieces_few}
use Rattle.sync_call_rules.specs.Calls.{Got}
use Rattle.voice_rules.specs.Calls.{decode_answer}
use Rattle.bits.specs.declared.Refusal.{Refusal}
use Rattle.voice_rules.specs.declared.Speech.{Speech}
use Rattle.recorder_asks.specs.Asks.{decoded_text, spoken_body, spoken_text, speaking}

pub answer_few : (offset : ℕ) (d : Result Speech Refusal) → length (decoded_text offset d) ≤ 128
answer_few offset (Ok s) = omega (arith, speech_short offset s.corrected s.payload)
answer_few offset (Err x) = omega (arith, refused_short offset (number_of x))

spoken_few : (table : List ℕ) (offset : ℕ) (b : Body) (envelope : List ℕ) → length (spoken_body table offset b envelope) ≤ 128
spoken_few table offset (Frame f) envelope = answer_few offset (decode_answer table envelope)
spoken_few table offset (Gap n) envelope = omega (arith, gap_short offset n)

lines_few : (table : List ℕ) (ps : List Piece) → length (rendered (spoken_text table) ps) ≤ 128 * length ps
unfolding rendered
lines_few table [] = omega arith
lines_few table (p ∷ ps) = omega (arith, length-append (spoken_text table p) (rendered (spoken_text table) ps), spoken_few table p.entry.offset p.entry.body p.envelope, lines_few table ps)

-- two lines for each frame at most
pub speech_few : (table : List ℕ) (e : Option ℕ) (gs : List Got) → length ((speaking table).bytes e gs) ≤ 256 * length gs
speech_few table e gs = omega (arith, lines_few table (pieces_from e (frames_of untried gs)), pieces_few untried e gs)

pub speaking_sequential : (table : List ℕ) → Sequential (speaking table)
speaking_sequential table = record { none = rendered_none untried (spoken_text table); more = rendered_more untried (spoken_text table); fits = λ e gs w h. omega (arith, speech_few table e gs) }
