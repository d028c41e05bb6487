-- The journal of the frames that a history of steps sends: no break, nothing refused, and each record reads back.
-- Assumes nothing.
use Rattle.std.proofs.Common.{Option, Some, None}
use mathlib.Core.Path.{◌≡◌, refl, ap, ap₂, ◌∙◌, subst}
use mathlib.Core.Bool.{true, ◌&&◌}
use mathlib.Core.List.{List, [], ◌∷◌, ◌++◌}
use Prim.Native.Nat.{ℕ, ◌+◌, ◌≤◌}
use native.Mathlib.Omega.{arith}
use borrow.Author.Tests.{eq-eqb, le-leb}
use lib.Dec.{ltb}
use lib.ListN.{length, take}
use Rattle.bits.specs.Alls.{All}
use Rattle.bits.specs.Sizes.{frame_bits, most_offset}
use Rattle.bits.proofs.Belows.{below_none}
use Rattle.bits.proofs.Conds.{cond_both}
use Rattle.journal_rules.specs.Gaps.{Framed, Piece, piece_of, gap_after, gap_to, gap_pieces, pieces_from, pieces_of, Spaced, last_of, AllFair, AllAllowed}
use Rattle.journal_rules.specs.Record.{size_fits}
use Rattle.journal_rules.proofs.Gapless.{unchanged, writable}
use Rattle.journal_rules.proofs.RoundTrips.{written_reads}
use Rattle.sync.specs.View.{view}
use Rattle.sync_call_rules.specs.Calls.{shown_as}
use Rattle.sync_call_rules.proofs.Ends.{end_low}
use Rattle.sync_frames.specs.Frames.{head_of}
use Rattle.sync_rules.specs.Counts.{state_after}
use Rattle.sync_rules.specs.Demand.{sent_by}
use Rattle.sync_rules.specs.Frames.{Frame}
use Rattle.sync_rules.specs.Pushes.{run}
use Rattle.sync_rules.specs.Room.{envelope_of}
use Rattle.sync_rules.specs.State.{State, Input, start, stream_end}
use Rattle.recorder_rules.specs.Makings.{Trying, FairTrying, framed_of, frames_of}
use Rattle.recorder_rules.specs.Calls.{Called, lent_to, state_of, pushed_by}
use Rattle.recorder_rules.specs.Statements.{AllRead, Apart, journal_rule}
use Rattle.recorder_rules.proofs.Laying.{Sized, whole_sized, records_long}
use Rattle.recorder_rules.proofs.Rising.{Onward, Dibits, run_goes}
use Rattle.recorder_rules.proofs.Feeding.{packed_dibits, dibits_taken, shown_whole}
use Rattle.recorder_rules.proofs.Histories.{leads}
use Rattle.journal_rules.specs.declared.Entry.{Entry}

-- ---- frames that go onward

module _ (try : Trying) where
  abbrev framed : List Frame → List Framed
  framed fs = frames_of try (shown_as fs)

  spaced : (o : ℕ) (fs : List Frame) (c : ℕ) → Onward (o + 384) fs c → Spaced o (framed fs)
  unfolding frames_of shown_as
  spaced o [] c w = tt
  spaced o (f ∷ fs) c w = (w.0, spaced f.offset fs c w.1.1)

  apart : (fs : List Frame) (c : ℕ) → Onward 0 fs c → Apart (framed fs)
  unfolding frames_of shown_as
  apart [] c w = tt
  apart (f ∷ fs) c w = spaced f.offset fs c w.1.1

  last_low : (o : ℕ) (fs : List Frame) (c : ℕ) → Onward (o + 384) fs c → last_of o (framed fs) + 384 ≤ c
  unfolding frames_of shown_as
  last_low o [] c w = w
  last_low o (f ∷ fs) c w = last_low f.offset fs c w.1.1

  all_fair : FairTrying try → (e : ℕ) (fs : List Frame) (c : ℕ) → Onward e fs c → AllFair (framed fs)
  unfolding frames_of shown_as
  all_fair t e [] c w = tt
  all_fair t e (f ∷ fs) c w = (ap₂ ◌&&◌ (le-leb f.errors 48 w.1.0) (t (envelope_of f.bits)), all_fair t (f.offset + 384) fs c w.1.1)

  all_allowed : FairTrying try → (fs : List Frame) (c : ℕ) → c ≤ most_offset → Onward 0 fs c → AllAllowed (pieces_of (framed fs))
  unfolding frames_of shown_as pieces_from
  all_allowed t [] c l w = tt
  all_allowed t (f ∷ fs) c l w =
      let low : last_of f.offset (framed fs) + 384 ≤ most_offset = omega (arith, last_low f.offset fs c w.1.1) in
      writable (framed_of try (record { head = head_of f; envelope = envelope_of f.bits })) (framed fs) (spaced f.offset fs c w.1.1) (all_fair t 0 (f ∷ fs) c w) low

-- ---- each record reads back

-- an entry's envelope has its size
abbrev FitsPiece : Piece → Type 0
FitsPiece p = size_fits p.entry.body (length p.envelope) ≡ true

gap_sized : (e : Option ℕ) (next : ℕ) (rest : List Piece) → All FitsPiece rest → All FitsPiece (gap_pieces (gap_to e next) ++ rest)
gap_sized None next rest a = a
gap_sized (Some o) next rest a = cond_both (λ (b : Option Entry). All FitsPiece (gap_pieces b ++ rest)) (ltb (o + frame_bits) next) (Some (gap_after o next)) None (refl, a) a

pub pieces_sized : (e : Option ℕ) (fs : List Framed) → Sized fs → All FitsPiece (pieces_from e fs)
unfolding pieces_from
pieces_sized e [] s = tt
pieces_sized e (f ∷ fs) s = gap_sized e f.place (piece_of f ∷ pieces_from (Some f.place) fs) (eq-eqb (length f.bytes) 48 s.0, pieces_sized (Some f.place) fs s.1)

pub all_read : (ps : List Piece) → All FitsPiece ps → AllAllowed ps → AllRead ps
all_read [] s a = tt
all_read (p ∷ ps) s a = (written_reads p.entry p.envelope s.0 a.0, all_read ps s.1 a.1)

-- ---- of any history

dibits_append : (xs ys : List Input) → Dibits xs → Dibits ys → Dibits (xs ++ ys)
dibits_append [] ys a b = b
dibits_append (x ∷ xs) ys a b = (a.0, dibits_append xs ys a.1 b)

pushed_dibits : (cs : List Called) → Dibits (pushed_by cs)
unfolding pushed_by
pushed_dibits [] = tt
pushed_dibits (c ∷ cs) = dibits_append (take c.answer.used (lent_to c)) (pushed_by cs) (dibits_taken c.answer.used (lent_to c) (packed_dibits c.bytes c.from)) (pushed_dibits cs)

-- the frames of a stream, from 0 on up to its clock
pub sent_onward : (xs : List Input) → Dibits xs → Onward 0 (sent_by [] xs) (state_after xs).figures.clock
unfolding sent_by run
sent_onward xs d = (run_goes xs start d (below_none 2 (omega arith))).onward

pub journal_rule_lem : journal_rule
journal_rule_lem p try t r f cs h =
    let l = leads p cs r f.valid h in
    let xs = pushed_by cs in
    let m : view (state_of r cs).sync ≡ state_after xs = l.next ∙ ap (λ (z : State). (run xs z).next) f.nothing in
    let low : (state_after xs).figures.clock ≤ most_offset = omega (arith, subst (λ (z : State). stream_end z ≤ most_offset) m (end_low (state_of r cs).sync l.valid.sync)) in
    let fs = sent_by [] xs in
    let on = sent_onward xs (pushed_dibits cs) in
    let sized = whole_sized try (shown_as fs) (shown_whole fs) in
    let allowed = all_allowed try t fs (state_after xs).figures.clock low on in
    record {
      apart = apart try fs (state_after xs).figures.clock on;
      frames = unchanged (framed try fs);
      allowed = allowed;
      reads = all_read (pieces_of (framed try fs)) (pieces_sized None (framed try fs) sized) allowed;
      size = records_long None (framed try fs) sized;
    }
