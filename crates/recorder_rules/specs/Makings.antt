-- What a program makes of the frames that the synchroniser sends: bytes, in their order, each frame's behind those of the gap before it.
-- Assumes nothing.
use Rattle.std.specs.Prelude.{◌≡◌, Bool, true, false, cond, List, [], ◌∷◌, ◌++◌, ℕ, ◌+◌, ◌≤◌, length, Option, Some}
use Rattle.bits.specs.Alls.{All}
use Rattle.journal_rules.specs.Gaps.{Framed, Piece, pieces_from}
use Rattle.journal_rules.specs.Record.{record_of, may_correct}
use Rattle.journal_rules.specs.declared.Outcome.{Outcome}
use Rattle.journal_rules.specs.declared.Outcome.TheVariants.{Untried, Accepted, Refused}
use Rattle.journal_rules.specs.declared.Tried.{Tried}
use Rattle.lines_rules.specs.Entries.{listed_text}
use Rattle.lines_rules.specs.Slips.{slip_line_text}
use Rattle.sync_call_rules.specs.Calls.{Got}

-- ---- frames as the journal says them

-- what is said of an envelope
abbrev pub Trying : Type 0
Trying = List ℕ → Tried

-- of one that no decoder has seen
abbrev pub untried : Trying
untried envelope = record { outcome = Untried; corrected = 0 }

-- a frame to be written: its own head and envelope, and what is said of the envelope
abbrev pub framed_of : Trying → Got → Framed
framed_of try g =
    record {
      place = g.head.offset;
      figures = record { matched = g.head.matched; errors = g.head.errors; outcome = (try g.envelope).outcome; corrected = (try g.envelope).corrected };
      bytes = g.envelope;
    }

unfoldable pub frames_of : Trying → List Got → List Framed
frames_of try [] = []
frames_of try (g ∷ gs) = framed_of try g ∷ frames_of try gs

-- the frame before the next one, once the frames gs have gone out
unfoldable pub earlier_after : Option ℕ → List Got → Option ℕ
earlier_after e [] = e
earlier_after e (g ∷ gs) = earlier_after (Some g.head.offset) gs

-- ---- their bytes

-- the bytes of entries, each as f has them, one behind the other
unfoldable pub rendered : (Piece → List ℕ) → List Piece → List ℕ
rendered f [] = []
rendered f (p ∷ ps) = f p ++ rendered f ps

abbrev pub record_bytes : Piece → List ℕ
record_bytes p = record_of p.entry p.envelope

-- the records of entries: 64 bytes each
abbrev pub records_of : List Piece → List ℕ
records_of ps = rendered record_bytes ps

-- the lines of the frames that moved
unfoldable pub slip_lines : List Got → List ℕ
slip_lines [] = []
slip_lines (g ∷ gs) = slip_line_text g.head ++ slip_lines gs

-- ---- what programs make

-- The bytes made of frames that follow an earlier one, whether an envelope counts as accepted, and how many bytes the three frames of a push may need.
pub record Making : Type 0 where
  pub bytes : Option ℕ → List Got → List ℕ
  pub accepts : List ℕ → Bool
  pub need : ℕ

abbrev pub is_accepted : Outcome → Bool
is_accepted Untried = false
is_accepted Accepted = true
is_accepted Refused = false

-- a journal: the records of the frames, each with the gap before it
abbrev pub journal : Trying → Making
journal try = record { bytes = λ e gs. records_of (pieces_from e (frames_of try gs)); accepts = λ envelope. is_accepted (try envelope).outcome; need = 384 }

-- a listing: a line for each of the same entries
abbrev pub listing : Making
listing = record { bytes = λ e gs. rendered listed_text (pieces_from e (frames_of untried gs)); accepts = λ envelope. false; need = 768 }

-- the slips: a line for each frame with a move
abbrev pub slipping : Making
slipping = record { bytes = λ e gs. slip_lines gs; accepts = λ envelope. false; need = 768 }

-- how many of the frames are accepted
unfoldable pub accepted_in : (List ℕ → Bool) → List Got → ℕ
accepted_in accepts [] = 0
accepted_in accepts (g ∷ gs) = cond (accepts g.envelope) 1 0 + accepted_in accepts gs

-- ---- what is asked of a making

-- a frame's envelope is whole
abbrev pub WholeFrame : Got → Type 0
WholeFrame g = length g.envelope ≡ 48

-- it goes through frames one after the other, and three of them fit
pub record Sequential (p : Making) : Type 0 where
  pub none : (e : Option ℕ) → p.bytes e [] ≡ []
  pub more : (e : Option ℕ) (gs hs : List Got) → p.bytes e (gs ++ hs) ≡ p.bytes e gs ++ p.bytes (earlier_after e gs) hs
  pub fits : (e : Option ℕ) (gs : List Got) → All WholeFrame gs → length gs ≤ 3 → length (p.bytes e gs) ≤ p.need

-- "12 corrected bits 0-32, zero unless accepted"
abbrev pub FairTrying : Trying → Type 0
FairTrying try = (envelope : List ℕ) → may_correct (try envelope).outcome (try envelope).corrected ≡ true
