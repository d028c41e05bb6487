-- What is made of frames, laid one behind the other; and the records of a journal.
-- Assumes nothing.
use Rattle.std.proofs.Common.{Option, Some, None}
use mathlib.Core.Path.{◌≡◌, refl, sym, ap, ap₂, ◌∙◌}
use mathlib.Core.Bool.{Bool}
use mathlib.Core.List.{List, [], ◌∷◌, ◌++◌, append_assoc, append-nil}
use Prim.Native.Nat.{ℕ, suc, ◌+◌, ◌-◌, ◌*◌, ◌≤◌}
use native.Mathlib.Omega.{arith}
use lib.Dec.{ltb}
use lib.ListN.{length, replicate, length-append, length-replicate}
use lib.Seq.{sets}
use Rattle.bits.specs.Alls.{All}
use Rattle.bits.specs.BigEndian.{big_endian}
use Rattle.bits.proofs.BigEndians.{length_big}
use Rattle.bits.proofs.Conds.{cond_both}
use Rattle.bits.specs.Sizes.{frame_bits}
use Rattle.journal_rules.specs.Gaps.{Framed, Piece, piece_of, gap_after, gap_to, gap_pieces, pieces_from}
use Rattle.journal_rules.specs.Record.{body_bytes, record_of}
use Rattle.journal_rules.specs.declared.Body.TheVariants.{Frame, Gap}
use Rattle.sync_call_rules.specs.Calls.{Got}
use Rattle.sync_rooms.proofs.Rooms.{sets_append}
use Rattle.recorder_rules.specs.Makings.{Trying, framed_of, frames_of, earlier_after, rendered, record_bytes, records_of, Making, journal, accepted_in, WholeFrame, Sequential}
use Rattle.recorder_rules.specs.Steps.{LaidBy}
use Rattle.recorder_rules.specs.declared.Laid.{Laid}
use Rattle.journal_rules.specs.declared.Entry.{Entry}

-- ---- frames behind frames

pub earlier_append : (e : Option ℕ) (gs hs : List Got) → earlier_after e (gs ++ hs) ≡ earlier_after (earlier_after e gs) hs
unfolding earlier_after
earlier_append e [] hs = refl
earlier_append e (g ∷ gs) hs = earlier_append (Some g.head.offset) gs hs

pub accepted_append : (f : List ℕ → Bool) (gs hs : List Got) → accepted_in f (gs ++ hs) ≡ accepted_in f gs + accepted_in f hs
unfolding accepted_in
accepted_append f [] hs = omega arith
accepted_append f (g ∷ gs) hs = omega (arith, accepted_append f gs hs)

-- nothing is laid of no frames
pub laid_none_lem : (p : Making) → Sequential p → (out : List ℕ) (l : Laid) → LaidBy p out out l [] l
unfolding earlier_after accepted_in
laid_none_lem p s out l =
    record {
      size = omega (arith, ap length (s.none l.earlier));
      accepted = omega arith;
      earlier = refl;
      stored = sym (ap (sets out l.size) (s.none l.earlier));
    }

-- frames laid behind frames
pub laid_append : (p : Making) → Sequential p → (out mid left : List ℕ) (before between after : Laid) (gs hs : List Got) → LaidBy p out mid before gs between → LaidBy p mid left between hs after
    → LaidBy p out left before (gs ++ hs) after
laid_append p s out mid left before between after gs hs a b =
    let G = p.bytes before.earlier gs in
    let H = p.bytes (earlier_after before.earlier gs) hs in
    let same : p.bytes between.earlier hs ≡ H = ap (λ (e : Option ℕ). p.bytes e hs) a.earlier in
    let both : p.bytes before.earlier (gs ++ hs) ≡ G ++ H = s.more before.earlier gs hs in
    record {
      size = omega (arith, a.size, b.size, ap length same, ap length both, length-append G H);
      accepted = omega (arith, a.accepted, b.accepted, accepted_append p.accepts gs hs);
      earlier = b.earlier ∙ ap (λ (e : Option ℕ). earlier_after e hs) a.earlier ∙ sym (earlier_append before.earlier gs hs);
      stored =
          b.stored
          ∙ ap (sets mid between.size) same
          ∙ ap₂ (λ (l : List ℕ) (i : ℕ). sets l i H) a.stored a.size
          ∙ sets_append out before.size G H
          ∙ ap (sets out before.size) (sym both);
    }

-- ---- entries behind entries

pub rendered_append : (f : Piece → List ℕ) (ps qs : List Piece) → rendered f (ps ++ qs) ≡ rendered f ps ++ rendered f qs
unfolding rendered
rendered_append f [] qs = refl
rendered_append f (p ∷ ps) qs = ap (λ (l : List ℕ). f p ++ l) (rendered_append f ps qs) ∙ sym (append_assoc (f p) (rendered f ps) (rendered f qs))

module _ (try : Trying) where
  -- the gap before a frame is reckoned from the last frame before it, whichever list that is in
  pieces_append : (e : Option ℕ) (gs hs : List Got) → pieces_from e (frames_of try (gs ++ hs)) ≡ pieces_from e (frames_of try gs) ++ pieces_from (earlier_after e gs) (frames_of try hs)
  unfolding pieces_from frames_of earlier_after
  pieces_append e [] hs = refl
  pieces_append e (g ∷ gs) hs =
      let o = g.head.offset in
      ap (λ (l : List Piece). gap_pieces (gap_to e o) ++ (piece_of (framed_of try g) ∷ l)) (pieces_append (Some o) gs hs)
      ∙ sym (append_assoc (gap_pieces (gap_to e o)) (piece_of (framed_of try g) ∷ pieces_from (Some o) (frames_of try gs)) (pieces_from (earlier_after (Some o) gs) (frames_of try hs)))

  -- the bytes of entries go through frames one after the other
  pub rendered_none : (f : Piece → List ℕ) (e : Option ℕ) → rendered f (pieces_from e (frames_of try [])) ≡ []
  unfolding rendered pieces_from frames_of
  rendered_none f e = refl

  pub rendered_more : (f : Piece → List ℕ) (e : Option ℕ) (gs hs : List Got)
      → rendered f (pieces_from e (frames_of try (gs ++ hs))) ≡ rendered f (pieces_from e (frames_of try gs)) ++ rendered f (pieces_from (earlier_after e gs) (frames_of try hs))
  rendered_more f e gs hs = ap (rendered f) (pieces_append e gs hs) ∙ rendered_append f (pieces_from e (frames_of try gs)) (pieces_from (earlier_after e gs) (frames_of try hs))

  frames_many : (gs : List Got) → length (frames_of try gs) ≡ length gs
  unfolding frames_of
  frames_many [] = refl
  frames_many (g ∷ gs) = ap suc (frames_many gs)

-- ---- how many entries, and how long their records

gap_few : (e : Option ℕ) (next : ℕ) → length (gap_pieces (gap_to e next)) ≤ 1
gap_few None next = omega arith
gap_few (Some o) next = cond_both (λ (b : Option Entry). length (gap_pieces b) ≤ 1) (ltb (o + frame_bits) next) (Some (gap_after o next)) None (omega arith) (omega arith)

entries_few : (e : Option ℕ) (fs : List Framed) → length (pieces_from e fs) ≤ 2 * length fs
unfolding pieces_from
entries_few e [] = omega arith
entries_few e (f ∷ fs) =
    omega (arith, length-append (gap_pieces (gap_to e f.place)) (piece_of f ∷ pieces_from (Some f.place) fs), gap_few e f.place, entries_few (Some f.place) fs)

-- at most two for each frame
pub pieces_few : (try : Trying) (e : Option ℕ) (gs : List Got) → length (pieces_from e (frames_of try gs)) ≤ 2 * length gs
pieces_few try e gs = omega (arith, entries_few e (frames_of try gs), frames_many try gs)

-- every envelope has its size
abbrev pub Sized : List Framed → Type 0
Sized fs = All (λ (f : Framed). length f.bytes ≡ 48) fs

pub whole_sized : (try : Trying) (gs : List Got) → All WholeFrame gs → Sized (frames_of try gs)
unfolding frames_of
whole_sized try [] w = tt
whole_sized try (g ∷ gs) w = (w.0, whole_sized try gs w.1)

gap_long : (e : Option ℕ) (next : ℕ) → length (records_of (gap_pieces (gap_to e next))) ≡ 64 * length (gap_pieces (gap_to e next))
unfolding rendered
gap_long None next = refl
gap_long (Some o) next =
    let n = next - (o + frame_bits) in
    cond_both (λ (b : Option Entry). length (records_of (gap_pieces b)) ≡ 64 * length (gap_pieces b)) (ltb (o + frame_bits) next) (Some (gap_after o next)) None
    (ap length (append-nil (record_of (gap_after o next) [])) ∙ omega (arith, length-append (big_endian 8 (o + frame_bits)) (body_bytes (Gap n) []), length_big 8 (o + frame_bits), length-append (big_endian 8 n) (replicate 40 0), length_big 8 n, length-replicate {A = ℕ} 40 0))
    refl

frame_long : (f : Framed) → length f.bytes ≡ 48 → length (record_bytes (piece_of f)) ≡ 64
frame_long f s = omega (arith, length-append (big_endian 8 f.place) (body_bytes (Frame f.figures) f.bytes), length_big 8 f.place)

-- 64 bytes for each entry
pub records_long : (e : Option ℕ) (fs : List Framed) → Sized fs → length (records_of (pieces_from e fs)) ≡ 64 * length (pieces_from e fs)
unfolding rendered pieces_from
records_long e [] s = refl
records_long e (f ∷ fs) s =
    let gap = gap_pieces (gap_to e f.place) in
    let rest = pieces_from (Some f.place) fs in
    omega (arith, ap length (rendered_append record_bytes gap (piece_of f ∷ rest)), length-append (records_of gap) (records_of (piece_of f ∷ rest)), length-append (record_bytes (piece_of f)) (records_of rest), gap_long e f.place, frame_long f s.0, records_long (Some f.place) fs s.1, length-append gap (piece_of f ∷ rest))

-- so the records of three frames are at most six
pub journal_sequential : (try : Trying) → Sequential (journal try)
journal_sequential try =
    record {
      none = rendered_none try record_bytes;
      more = rendered_more try record_bytes;
      fits = λ e gs w h. omega (arith, records_long e (frames_of try gs) (whole_sized try gs w), pieces_few try e gs);
    }
