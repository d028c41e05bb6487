-- What the code's work stands for, how the frames that it hands on are laid into lent memory, and what holds of it between calls.
-- Assumes nothing.
use Rattle.std.specs.Prelude.{◌≡◌, Bool, true, List, [], ◌∷◌, ℕ, ◌+◌, ◌*◌, ◌≤◌, ◌<◌, length, Option, Some, None}
use Rattle.std.proofs.lemmas.List.Edits.{sets}
use Rattle.bits.specs.Alls.{All}
use Rattle.bits.specs.Sizes.{frame_bits, most_offset}
use Rattle.journal_rules.specs.Gaps.{Framed, pieces_from}
use Rattle.journal_rules.specs.Record.{may_correct}
use Rattle.journal_rules.specs.declared.Tried.{Tried}
use Rattle.merger.specs.States.{view_of}
use Rattle.merger.specs.declared.Merger.{Merger}
use Rattle.merger_rules.specs.declared.Position.{Position}
use Rattle.merger_rules.specs.declared.Released.{Released}
use Rattle.merger_rules.specs.declared.Released.TheVariants.{Frame, PassedOver, NothingReady}
use Rattle.merging_shelf.specs.Slots.{shelf_slots, slot_at}
use Rattle.merging_shelf.specs.declared.Shelf.{Shelf}
use Rattle.merging_shelf.specs.declared.Slot.{Slot}
use Rattle.recorder_rules.specs.Makings.{Trying, records_of}
use Rattle.recorder_rules.specs.Steps.{Writable}
use Rattle.recorder_rules.specs.declared.Laid.{Laid}
use Rattle.sync_rules.specs.declared.Head.{Head}
use Rattle.merging_rules.specs.declared.Work.{Work}
use Rattle.merging_rules.specs.Accounts.{Accounted, Idle, Fewer}
use Rattle.merging_rules.specs.Piles.{Pile, Handed}
use Rattle.merger_rules.specs.declared.Held.{Held}

-- what the definitions say of a work
abbrev pub pile_of : Work → Pile
pile_of w = record { merger = view_of w.merger; shelf = w.shelf; answered = w.answered; gone = w.gone }

-- ---- the frames handed on, in lent memory

-- the frame before the next one, once the frames fs are written
unfoldable pub last_written : Option ℕ → List Framed → Option ℕ
last_written e [] = e
last_written e (f ∷ fs) = last_written (Some f.place) fs

-- the records of frames that follow an earlier one
abbrev pub bytes_of : Option ℕ → List Framed → List ℕ
bytes_of e fs = records_of (pieces_from e fs)

-- the records of the frames fs are laid behind what was there
pub record FramesLaid (out left : List ℕ) (before : Laid) (fs : List Framed) (after : Laid) : Type 0 where
  pub size : after.size ≡ before.size + length (bytes_of before.earlier fs)
  pub earlier : after.earlier ≡ last_written before.earlier fs
  pub stored : left ≡ sets out before.size (bytes_of before.earlier fs)

-- a work and what is laid are what a call leaves and hands on
pub record MovedBy (h : Handed) (out left : List ℕ) (before : Laid) (w : Work) (after : Laid) : Type 0 where
  pub pile : pile_of w ≡ h.pile
  pub laid : FramesLaid out left before h.out after

-- the bytes laid, and 128 for each position that waits: of each a frame may be handed on, with the gap before it
abbrev pub reserved : Work → Laid → ℕ
reserved w l = l.size + 128 * w.merger.n

-- ---- what holds of a work between calls

-- the same said of every envelope
abbrev pub said : Tried → Trying
said t envelope = t

-- the journal takes what is said of a frame
abbrev pub FairTried : Tried → Type 0
FairTried t = may_correct t.outcome t.corrected ≡ true

-- the journal takes a frame's figures, even where the merger moves its offset on by 383
pub record Storable (h : Head) : Type 0 where
  pub ends : h.offset + 383 + frame_bits ≤ most_offset
  pub errors : h.errors ≤ 48

abbrev pub StorablePlace : Option Held → Type 0
StorablePlace None = Unit {0}
StorablePlace (Some h) = Storable h.figures

abbrev pub StorablePosition : Position → Type 0
StorablePosition p = StorablePlace p.primary × StorablePlace p.alternate

-- what lies in a slot can be written: what is said of it, and an envelope of 48 bytes
pub record FairSlot (s : Slot) : Type 0 where
  pub tried : FairTried s.tried
  pub envelope : length s.envelope ≡ 48

-- what waits can be written
pub record ValidWork (w : Work) : Type 0 where
  pub accounted : Accounted w
  pub storable : All StorablePosition (view_of w.merger).pending
  pub fair : All FairSlot w.shelf.slots

-- ---- a release

-- what it hands on can be written
abbrev pub WritableFrom : Shelf → Released → Type 0
WritableFrom s (Frame r) = (r.number < shelf_slots) × Writable r.figures × FairTried (slot_at s.slots r.number).tried
WritableFrom s PassedOver = Unit {0}
WritableFrom s NothingReady = Unit {0}

-- how many bytes it may need
abbrev pub need_of : Released → ℕ
need_of (Frame r) = 128
need_of PassedOver = 0
need_of NothingReady = 0

-- it takes one position out, or nothing was ready and nothing is
pub record OneLess (primary alternate : Option ℕ) (flush : Bool) (before after : Merger) : Type 0 where
  pub fewer : Fewer primary alternate flush before after
  pub one : before.n ≤ after.n + 1
  pub idle : after.n ≡ before.n → Idle primary alternate flush before
