-- The envelope and the record of a frame that is handed on.
-- Assumes nothing.
use Rattle.std.proofs.Common.{Option}
use mathlib.Core.Path.{◌≡◌, sym, ap, subst, ◌∙◌}
use mathlib.Core.List.{List, [], ◌∷◌}
use Prim.Native.Nat.{ℕ, ◌+◌, ◌≤◌}
use native.Mathlib.Omega.{arith}
use lib.ListN.{length}
use lib.Seq.{sets}
use Rattle.journal_rules.specs.Gaps.{Framed}
use Rattle.merger_rules.specs.declared.Freed.{Freed}
use Rattle.merger_rules.specs.declared.Release.{Release}
use Rattle.merger_rules.specs.declared.Released.{Released}
use Rattle.merging_shelf.specs.Slots.{slot_at}
use Rattle.merging_shelf.specs.declared.Shelf.{Shelf}
use Rattle.merging_rules.specs.Piles.{envelope_for, framed_from, frames_out}
use Rattle.merging_rules.specs.Works.{last_written, bytes_of, said, FramesLaid}
use Rattle.recorder_rules.specs.Makings.{framed_of, frames_of, earlier_after, journal}
use Rattle.recorder_rules.specs.Steps.{LaidBy}
use Rattle.recorder_rules.specs.declared.Laid.{Laid}
use Rattle.recorder_rules.proofs.Laying.{records_long, pieces_few}
use Rattle.sync_rules.specs.Moves.{no_moves}

-- ---- the record of a frame that is handed on
pub frame_laid : (s : Shelf) (f : Freed) (r : Release) (envelope out left : List ℕ) (before after : Laid) → envelope ≡ envelope_for f r.alternate s.slots
    → LaidBy (journal (said (slot_at s.slots r.number).tried)) out left (record { size = before.size; accepted = 0; earlier = before.earlier }) (record { head = r.figures; envelope = envelope } ∷ []) after
    → FramesLaid out left before (framed_from s f r ∷ []) after
unfolding frames_of earlier_after last_written
frame_laid s f r envelope out left before after e l =
    let same : frames_of (said (slot_at s.slots r.number).tried) (record { head = r.figures; envelope = envelope } ∷ []) ≡ framed_from s f r ∷ []
    = ap (λ (b : List ℕ). framed_of (said (slot_at s.slots r.number).tried) (record { head = r.figures; envelope = b }) ∷ []) e in
    let bytes = ap (bytes_of before.earlier) same in
    record { size = l.size ∙ ap (λ (b : List ℕ). before.size + length b) bytes; earlier = l.earlier; stored = l.stored ∙ ap (sets out before.size) bytes }

pub frame_few : (e : Option ℕ) (f : Framed) → length f.bytes ≡ 48 → length (bytes_of e (f ∷ [])) ≤ 128
unfolding frames_of
frame_few e f h =
    omega (arith, records_long e (f ∷ []) (h, tt), pieces_few (λ b. record { outcome = f.figures.outcome; corrected = f.figures.corrected }) e (record { head = record { offset = f.place; matched = f.figures.matched; errors = f.figures.errors; moves = no_moves }; envelope = f.bytes } ∷ []))

pub laid_as : (s : Shelf) (f : Freed) (a b : Released) (out left : List ℕ) (before after : Laid) → a ≡ b → FramesLaid out left before (frames_out s f b) after → FramesLaid out left before (frames_out s f a) after
laid_as s f a b out left before after e l = subst (λ (z : Released). FramesLaid out left before (frames_out s f z) after) (sym e) l
