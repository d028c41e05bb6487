-- What is laid of one frame: the gap's line, then its own.
-- Assumes nothing.
use Rattle.std.proofs.Common.{Option, Some, None, Result, Ok, Err, is_ok, Bool}
use mathlib.Core.Bool.{cond}
use mathlib.Core.List.{List, [], ◌∷◌, ◌++◌, append-nil}
use mathlib.Core.Path.{◌≡◌, refl, sym, ap, ap₂, ◌∙◌}
use Prim.Native.Nat.{ℕ, ◌+◌, ◌≤◌}
use native.Mathlib.Omega.{arith}
use lib.Dec.{ltb}
use lib.ListN.{length, length-append}
use lib.Seq.{sets}
use mir.Val.{bool_byte}
use Rattle.bits.proofs.Conds.{cond_both}
use Rattle.bits.specs.Sizes.{frame_bits}
use Rattle.frame_outcomes.specs.Outcomes.{tried_by}
use Rattle.journal_rules.specs.Gaps.{gap_to, gap_pieces, gap_after, piece_of, pieces_from}
use Rattle.lines_rules.specs.Entries.{between_text}
use Rattle.recorder_asks.specs.Asks.{decoded_text, spoken_text, speaking}
use Rattle.recorder_rules.specs.Makings.{untried, framed_of, frames_of, rendered, earlier_after, accepted_in, is_accepted}
use Rattle.recorder_rules.specs.Steps.{LaidBy}
use Rattle.recorder_rules.specs.declared.Laid.{Laid}
use Rattle.recorder_rules.proofs.Laying.{rendered_append}
use Rattle.sync_call_rules.specs.Calls.{Got}
use Rattle.sync_rooms.proofs.Rooms.{sets_append}
use Rattle.sync_rules.specs.declared.Head.{Head}
use Rattle.voice_rules.specs.Calls.{decode_answer}
use Rattle.bits.specs.declared.Refusal.{Refusal}
use Rattle.voice_rules.specs.declared.Speech.{Speech}
use Rattle.journal_rules.specs.declared.Entry.{Entry}

-- the gap's line says the gap
gap_spoken : (table : List ℕ) (e : Option ℕ) (next : ℕ) → rendered (spoken_text table) (gap_pieces (gap_to e next)) ≡ between_text (gap_to e next)
unfolding rendered
gap_spoken table None next = refl
gap_spoken table (Some o) next =
    cond_both (λ (b : Option Entry). rendered (spoken_text table) (gap_pieces b) ≡ between_text b) (ltb (o + frame_bits) next) (Some (gap_after o next)) None (append-nil (between_text (Some (gap_after o next)))) refl

-- the gap's line, then the frame's
spoken_one : (table : List ℕ) (e : Option ℕ) (g : Got) → (speaking table).bytes e (g ∷ []) ≡ between_text (gap_to e g.head.offset) ++ decoded_text g.head.offset (decode_answer table g.envelope)
unfolding frames_of pieces_from rendered
spoken_one table e g =
    let p = piece_of (framed_of untried g) in
    rendered_append (spoken_text table) (gap_pieces (gap_to e g.head.offset)) (p ∷ [])
    ∙ ap₂ (λ (a b : List ℕ). a ++ b) (gap_spoken table e g.head.offset) (append-nil (spoken_text table p))

-- a speech counts as accepted, and a refusal does not
pub one_is : (d : Result Speech Refusal) → bool_byte (is_ok d) ≡ cond {A = ℕ} (is_accepted (tried_by d).outcome) 1 0
one_is (Ok s) = refl
one_is (Err x) = refl

-- a frame counts once at most
pub one_few : (d : Result Speech Refusal) → cond (is_accepted (tried_by d).outcome) 1 0 ≤ 1
one_few d = cond_both (λ (n : ℕ). n ≤ 1) (is_accepted (tried_by d).outcome) 1 0 (omega arith) (omega arith)

module _ (out mid left : List ℕ) (before after : Laid) (h : Head) (d : Result Speech Refusal) (behind : ℕ) where
  abbrev gap : List ℕ
  gap = between_text (gap_to before.earlier h.offset)

  abbrev line : List ℕ
  line = decoded_text h.offset d

  -- both lines put, one behind the other
  pub speech_laid : behind ≡ before.size + length gap → mid ≡ sets out before.size gap → after.size ≡ behind + length line → left ≡ sets mid behind line
      → after.accepted ≡ before.accepted + cond (is_accepted (tried_by d).outcome) 1 0 → after.earlier ≡ Some h.offset
      → (table envelope : List ℕ) → decode_answer table envelope ≡ d → LaidBy (speaking table) out left before (record { head = h; envelope = envelope } ∷ []) after
  unfolding earlier_after accepted_in
  speech_laid at first end second count last table envelope told =
      let made : (speaking table).bytes before.earlier (record { head = h; envelope = envelope } ∷ []) ≡ gap ++ line = spoken_one table before.earlier (record { head = h; envelope = envelope }) ∙ ap (λ (x : Result Speech Refusal). gap ++ decoded_text h.offset x) told in
      let one : ◌≡◌ {A = ℕ} (cond (is_accepted (tried_by (decode_answer table envelope)).outcome) 1 0) (cond (is_accepted (tried_by d).outcome) 1 0) = ap (λ (x : Result Speech Refusal). cond {A = ℕ} (is_accepted (tried_by x).outcome) 1 0) told in
      record {
        size = omega (arith, length-append gap line, ap length made);
        accepted = omega arith;
        earlier = last;
        stored = second ∙ ap₂ (λ (l : List ℕ) (i : ℕ). sets l i line) first at ∙ sets_append out before.size gap line ∙ ap (sets out before.size) (sym made);
      }
