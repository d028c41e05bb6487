-- What is laid of one frame.
-- Assumes nothing.
use Rattle.std.proofs.Common.{Option, Some, None}
use mathlib.Core.Bool.{Bool, false, cond}
use mathlib.Core.List.{List, [], ◌∷◌, ◌++◌, append-nil}
use mathlib.Core.Path.{◌≡◌, refl, sym, ap, ap₂, ◌∙◌}
use Prim.Native.Nat.{ℕ, ◌+◌, ◌≤◌}
use native.Mathlib.Omega.{arith}
use lib.ListN.{length, length-append}
use lib.Seq.{sets}
use Rattle.journal_rules.specs.Gaps.{Piece, gap_to, gap_pieces, piece_of, pieces_from}
use Rattle.lines_rules.specs.Entries.{listed_text, between_text}
use Rattle.lines_rules.specs.Slips.{slip_line_text}
use Rattle.lines_rules.proofs.Lengths.{frame_short, between_short, slip_short}
use Rattle.recorder_rules.specs.Makings.{untried, framed_of, frames_of, rendered, slip_lines, earlier_after, accepted_in}
use Rattle.recorder_rules.specs.Steps.{LaidBy}
use Rattle.recorder_rules.specs.declared.Laid.{Laid}
use Rattle.sync_call_rules.specs.Calls.{Got}
use Rattle.sync_rooms.proofs.Rooms.{sets_append}
use Rattle.sync_rules.specs.declared.Head.{Head}
use Rattle.recorder_lines.specs.Wants.{making_of}
use Rattle.lines_laying.specs.Wants.{wanted_gap, wanted_line}
use Rattle.lines_laying.specs.declared.Wanted.{Wanted}
use Rattle.lines_laying.specs.declared.Wanted.TheVariants.{Listing, Slips}
use Rattle.journal_rules.specs.declared.Entry.{Entry}

-- ---- how long its lines are

pub gap_few : (w : Wanted) (e : Option ℕ) (next : ℕ) → length (wanted_gap w e next) ≤ 128
gap_few Listing e next = omega (arith, between_short (gap_to e next))
gap_few Slips e next = omega arith

pub line_few : (w : Wanted) (h : Head) → length (wanted_line w h) ≤ 128
line_few Listing h = omega (arith, frame_short h.offset h.matched h.errors)
line_few Slips h = omega (arith, slip_short h)

-- ---- what is made of it

listed_behind : (b : Option Entry) (p : Piece) → rendered listed_text (gap_pieces b ++ (p ∷ [])) ≡ between_text b ++ listed_text p
unfolding rendered
listed_behind None p = append-nil (listed_text p)
listed_behind (Some e) p = ap (λ (l : List ℕ). between_text (Some e) ++ l) (append-nil (listed_text p))

-- the gap's line, then its own
made_of_one : (w : Wanted) (e : Option ℕ) (g : Got) → (making_of w).bytes e (g ∷ []) ≡ wanted_gap w e g.head.offset ++ wanted_line w g.head
unfolding frames_of pieces_from slip_lines
made_of_one Listing e g = listed_behind (gap_to e g.head.offset) (piece_of (framed_of untried g))
made_of_one Slips e g = append-nil (slip_line_text g.head)

none_accepted : (w : Wanted) (envelope : List ℕ) → (making_of w).accepts envelope ≡ false
none_accepted Listing envelope = refl
none_accepted Slips envelope = refl

module _ (w : Wanted) (out mid left : List ℕ) (before after : Laid) (h : Head) (behind : ℕ) where
  abbrev gap : List ℕ
  gap = wanted_gap w before.earlier h.offset

  abbrev line : List ℕ
  line = wanted_line w h

  -- both lines put, one behind the other
  pub one_laid : behind ≡ before.size + length gap → mid ≡ sets out before.size gap → after.size ≡ behind + length line → left ≡ sets mid behind line
      → after.accepted ≡ before.accepted → after.earlier ≡ Some h.offset
      → (envelope : List ℕ) → LaidBy (making_of w) out left before (record { head = h; envelope = envelope } ∷ []) after
  unfolding earlier_after accepted_in
  one_laid at first end second count last envelope =
      let made = made_of_one w before.earlier (record { head = h; envelope = envelope }) in
      let none : ◌≡◌ {A = ℕ} (cond ((making_of w).accepts envelope) 1 0) 0 = ap (λ (b : Bool). cond {A = ℕ} b 1 0) (none_accepted w envelope) in
      record {
        size = omega (arith, length-append gap line, ap length made);
        accepted = omega arith;
        earlier = last;
        stored = second ∙ ap₂ (λ (l : List ℕ) (i : ℕ). sets l i line) first at ∙ sets_append out before.size gap line ∙ ap (sets out before.size) (sym made);
      }
