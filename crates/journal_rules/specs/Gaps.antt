-- Document 01, 'Journal': "A gap is written where two successive frames' offsets differ by more than 384: from the earlier offset plus 384
-- up to the later offset." The whole list of entries of a list of frames, and what it is for entries to leave no break.
-- Assumes nothing.
use Rattle.std.specs.Prelude.{Bool, true, false, cond, ◌&&◌, List, [], ◌∷◌, ◌++◌, ◌≡◌, ℕ, ◌+◌, ◌-◌, ◌≤◌, ltb, leb, Option, Some, None}
use Rattle.bits.specs.Sizes.{frame_bits}
use Rattle.journal_rules.specs.declared.Figures.{Figures}
use Rattle.journal_rules.specs.declared.Body.{Body}
use Rattle.journal_rules.specs.declared.Body.TheVariants.{Frame, Gap}
use Rattle.journal_rules.specs.declared.Entry.{Entry}
use Rattle.journal_rules.specs.Record.{entry_at, end_of, fair, allowed}

-- a frame to be written: its offset, its figures and its envelope
pub record Framed : Type 0 where
  pub place : ℕ
  pub figures : Figures
  pub bytes : List ℕ

-- an entry with the envelope beside it
pub record Piece : Type 0 where
  pub entry : Entry
  pub envelope : List ℕ

abbrev pub piece_of : Framed → Piece
piece_of f = record { entry = entry_at f.place (Frame f.figures); envelope = f.bytes }

-- the gap from an earlier frame's end up to the offset `next`
abbrev pub gap_after : ℕ → ℕ → Entry
gap_after o next = entry_at (o + frame_bits) (Gap (next - (o + frame_bits)))

-- the gap before a frame at the offset `next`; before the first frame there is none
abbrev pub gap_to : Option ℕ → ℕ → Option Entry
gap_to None next = None
gap_to (Some o) next = cond (ltb (o + frame_bits) next) (Some (gap_after o next)) None

-- it as entries: one, with no envelope, or none
abbrev pub gap_pieces : Option Entry → List Piece
gap_pieces None = []
gap_pieces (Some e) = record { entry = e; envelope = [] } ∷ []

-- the entries of frames that follow an earlier one
unfoldable pub pieces_from : Option ℕ → List Framed → List Piece
pieces_from earlier [] = []
pieces_from earlier (f ∷ fs) = gap_pieces (gap_to earlier f.place) ++ (piece_of f ∷ pieces_from (Some f.place) fs)

-- the whole journal of a list of frames
abbrev pub pieces_of : List Framed → List Piece
pieces_of fs = pieces_from None fs

-- ---- what is claimed of it

-- each offset is at least 384 past the one before
abbrev pub Spaced : ℕ → List Framed → Type 0
Spaced o [] = Unit {0}
Spaced o (f ∷ fs) = (o + frame_bits ≤ f.place) × Spaced f.place fs

-- the offset of the last frame
abbrev pub last_of : ℕ → List Framed → ℕ
last_of o [] = o
last_of o (f ∷ fs) = last_of f.place fs

-- each entry starts where the one before it ends, the first one at `start`
abbrev pub Follow : ℕ → List Piece → Type 0
Follow start [] = Unit {0}
Follow start (p ∷ ps) = (p.entry.offset ≡ start) × Follow (end_of p.entry) ps

-- how many of the entries cover bit x of the clock
unfoldable pub covering : ℕ → List Piece → ℕ
covering x [] = 0
covering x (p ∷ ps) = cond (leb p.entry.offset x && ltb x (end_of p.entry)) 1 0 + covering x ps

-- whether an entry is a frame's
abbrev pub is_framed : Body → Bool
is_framed (Frame f) = true
is_framed (Gap n) = false

-- the frames among the entries
unfoldable pub frames_in : List Piece → List Piece
frames_in [] = []
frames_in (p ∷ ps) = cond (is_framed p.entry.body) (p ∷ frames_in ps) (frames_in ps)

-- the frames' own entries
unfoldable pub pieces_alone : List Framed → List Piece
pieces_alone [] = []
pieces_alone (f ∷ fs) = piece_of f ∷ pieces_alone fs

-- every frame's figures keep the rules
abbrev pub AllFair : List Framed → Type 0
AllFair [] = Unit {0}
AllFair (f ∷ fs) = (fair (Frame f.figures) ≡ true) × AllFair fs

-- every entry may be written
abbrev pub AllAllowed : List Piece → Type 0
AllAllowed [] = Unit {0}
AllAllowed (p ∷ ps) = (allowed p.entry ≡ true) × AllAllowed ps
