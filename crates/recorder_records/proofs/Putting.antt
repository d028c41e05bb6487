-- A record laid at its place; a gap's, and a frame's behind it.
-- Assumes nothing.
use Rattle.std.proofs.Common.{Option, Some, None, Result}
use mathlib.Core.Path.{◌≡◌, refl, sym, ap, ap₂, ◌∙◌, subst}
use mathlib.Core.Bool.{true, cond, ◌&&◌}
use mathlib.Core.List.{List, [], ◌∷◌, ◌++◌, append_assoc, append-nil}
use Prim.Native.Nat.{ℕ, ◌+◌, ◌-◌, ◌≤◌}
use native.Mathlib.Omega.{arith}
use borrow.Author.Tests.{eqb-true, eq-eqb, le-leb, ltb-true}
use borrow.Rule.Slice.PartMut.{mid_of, put_mid, mid_len, Post-is}
use lib.Dec.{ltb}
use lib.ListN.{length, take, drop, replicate, length-append, length-replicate}
use lib.Seq.{sets, sets-eq}
use Rattle.bits.specs.BigEndian.{big_endian}
use Rattle.bits.specs.Sizes.{frame_bits, most_offset}
use Rattle.bits.proofs.BigEndians.{length_big}
use Rattle.bits.proofs.Conds.{cond_cases}
use Rattle.journal_rules.specs.declared.Body.{Body}
use Rattle.journal_rules.specs.declared.Body.TheVariants.{Frame, Gap}
use Rattle.journal_rules.specs.declared.Entry.{Entry}
use Rattle.journal_rules.specs.declared.Figures.{Figures}
use Rattle.journal_rules.specs.Gaps.{piece_of, gap_after, gap_to, gap_pieces, pieces_from}
use Rattle.journal_rules.specs.Record.{entry_at, body_bytes, record_of, size_fits, may_correct, allowed, left_by, Wrote}
use Rattle.journal_rules.proofs.Records.{else_written}
use Rattle.sync_call_rules.specs.Calls.{Got}
use Rattle.sync_rooms.proofs.Rooms.{sets_append}
use Rattle.recorder_rules.specs.Makings.{Trying, framed_of, frames_of, earlier_after, rendered, record_bytes, records_of, journal, accepted_in, is_accepted}
use Rattle.recorder_rules.specs.Steps.{LaidBy}
use Rattle.recorder_rules.specs.declared.Laid.{Laid}
use Rattle.recorder_rules.proofs.Laying.{rendered_append}
use Rattle.bits.specs.declared.Refusal.{Refusal}

-- ---- one record

record_long : (o : ℕ) (b : Body) (envelope : List ℕ) → size_fits b (length envelope) ≡ true → length (record_of (entry_at o b) envelope) ≡ 64
record_long o (Frame f) envelope s = omega (arith, length-append (big_endian 8 o) (body_bytes (Frame f) envelope), length_big 8 o, eqb-true (length envelope) 48 s)
record_long o (Gap n) envelope s =
    omega (arith, length-append (big_endian 8 o) (body_bytes (Gap n) envelope), length_big 8 o, length-append (big_endian 8 n) (replicate 40 0), length_big 8 n, length-replicate {A = ℕ} 40 0)

-- what a write into 64 bytes leaves of the whole
pub put_record : (out : List ℕ) (at : ℕ) (e : Entry) (envelope after : List ℕ) (w : Result Unit Refusal) → at + 64 ≤ length out → Wrote 64 e envelope (mid_of at (at + 64 - at) out) w after
    → size_fits e.body (length envelope) ≡ true → allowed e ≡ true → put_mid at (at + 64 - at) out after ≡ sets out at (record_of e envelope)
put_record out at e envelope after w h wrote s g =
    let m = mid_of at (at + 64 - at) out in
    let n : length m ≡ 64 = mid_len at (at + 64) out h ∙ omega arith in
    let is : after ≡ record_of e envelope = wrote.left ∙ ap (λ (x : Result Unit Refusal). left_by x (record_of e envelope) m) (else_written 64 e envelope m s (ap₂ ◌&&◌ (eq-eqb _ _ n) g)) in
    let k : length (record_of e envelope) ≡ 64 = record_long e.offset e.body envelope s in
    ap₂ (λ (x y : List ℕ). take at out ++ (x ++ y)) is (Post-is at (at + 64) out (omega arith))
    ∙ sym (sets-eq (record_of e envelope) out at (omega arith) ∙ append_assoc (take at out) (record_of e envelope) (drop (at + length (record_of e envelope)) out)
    ∙ ap (λ (i : ℕ). take at out ++ (record_of e envelope ++ drop (at + i) out)) k)

-- ---- a gap

-- it lies at or below the frame's offset, so that the journal takes it
gap_ends : (earlier : Option ℕ) (next : ℕ) (e : Entry) → next ≤ most_offset → gap_to earlier next ≡ Some e → (allowed e ≡ true) × (size_fits e.body 0 ≡ true)
gap_ends None next e h q = let z : ◌≡◌ {A = ℕ} 0 1 = cc in absurd (omega arith)
gap_ends (Some o) next e h q =
    cond_cases (λ (b : Option Entry). b ≡ Some e → (allowed e ≡ true) × (size_fits e.body 0 ≡ true)) (ltb (o + frame_bits) next) (Some (gap_after o next)) None
    (λ t r. let n = next - (o + frame_bits) in
    let far = ltb-true (o + frame_bits) next t in
    let same : gap_after o next ≡ e = cc in
    subst (λ (x : Entry). (allowed x ≡ true) × (size_fits x.body 0 ≡ true)) same (ap₂ ◌&&◌ (le-leb 1 n (omega arith)) (le-leb (o + frame_bits + n) most_offset (omega arith)), refl))
    (λ t r. let z : ◌≡◌ {A = ℕ} 0 1 = cc in absurd (omega arith))
    q

pub gap_allowed : (earlier : Option ℕ) (next : ℕ) (e : Entry) → next ≤ most_offset → gap_to earlier next ≡ Some e → allowed e ≡ true
gap_allowed earlier next e h q = (gap_ends earlier next e h q).0

pub gap_sized : (earlier : Option ℕ) (next : ℕ) (e : Entry) → next ≤ most_offset → gap_to earlier next ≡ Some e → size_fits e.body 0 ≡ true
gap_sized earlier next e h q = (gap_ends earlier next e h q).1

pub no_gap : (b : Option Entry) (at : ℕ) (out : List ℕ) → b ≡ None → (at ≡ at + length (records_of (gap_pieces b))) × ((at ≤ at + 64) × (out ≡ sets out at (records_of (gap_pieces b))))
unfolding rendered
no_gap b at out q = let e : records_of (gap_pieces b) ≡ [] = ap (λ (x : Option Entry). records_of (gap_pieces x)) q in (omega (arith, ap length e), (omega arith, sym (ap (sets out at) e)))

pub one_gap : (b : Option Entry) (e : Entry) (at size : ℕ) (out left : List ℕ) → b ≡ Some e → size_fits e.body 0 ≡ true → size ≡ at + 64 → left ≡ sets out at (record_of e [])
    → (size ≡ at + length (records_of (gap_pieces b))) × ((size ≤ at + 64) × (left ≡ sets out at (records_of (gap_pieces b))))
unfolding rendered
one_gap b e at size out left q s es el =
    let is : records_of (gap_pieces b) ≡ record_of e [] = ap (λ (x : Option Entry). records_of (gap_pieces x)) q ∙ append-nil (record_of e []) in
    (omega (arith, ap length is, record_long e.offset e.body [] s), (omega arith, el ∙ ap (sets out at) (sym is)))

-- ---- a frame, behind the gap before it

pub frame_allowed : (o : ℕ) (f : Figures) → o + frame_bits ≤ most_offset → f.errors ≤ 48 → may_correct f.outcome f.corrected ≡ true → allowed (entry_at o (Frame f)) ≡ true
frame_allowed o f h k m = ap₂ ◌&&◌ (ap₂ ◌&&◌ (le-leb f.errors 48 k) m) (le-leb (o + frame_bits) most_offset h)

pub laid_one : (try : Trying) (out mid left : List ℕ) (before after : Laid) (g : Got) (at : ℕ) → length g.envelope ≡ 48
    → at ≡ before.size + length (records_of (gap_pieces (gap_to before.earlier g.head.offset))) → mid ≡ sets out before.size (records_of (gap_pieces (gap_to before.earlier g.head.offset)))
    → after.size ≡ at + 64 → left ≡ sets mid at (record_bytes (piece_of (framed_of try g)))
    → after.accepted ≡ before.accepted + cond (is_accepted (try g.envelope).outcome) 1 0 → after.earlier ≡ Some g.head.offset → LaidBy (journal try) out left before (g ∷ []) after
unfolding pieces_from frames_of earlier_after accepted_in rendered
laid_one try out mid left before after g at w ea em es el ec ee =
    let gap = gap_pieces (gap_to before.earlier g.head.offset) in
    let p = piece_of (framed_of try g) in
    let one = record_bytes p in
    let long : length one ≡ 64 = record_long p.entry.offset p.entry.body g.envelope (eq-eqb (length g.envelope) 48 w) in
    let all : records_of (gap ++ (p ∷ [])) ≡ records_of gap ++ one = rendered_append record_bytes gap (p ∷ []) ∙ ap (λ (l : List ℕ). records_of gap ++ l) (append-nil one) in
    record {
      size = omega (arith, ap length all, length-append (records_of gap) one);
      accepted = omega arith;
      earlier = ee;
      stored = el ∙ ap₂ (λ (l : List ℕ) (i : ℕ). sets l i one) em ea ∙ sets_append out before.size (records_of gap) one ∙ ap (sets out before.size) (sym all);
    }
