-- Frames laid behind frames, and releases one after the other.
-- Assumes nothing.
use Rattle.std.proofs.Common.{Option, Some}
use mathlib.Core.Path.{◌≡◌, refl, sym, ap, ap₂, ◌∙◌}
use mathlib.Core.Bool.{Bool}
use mathlib.Core.List.{List, [], ◌∷◌, ◌++◌, append_assoc, append-nil}
use Prim.Native.Nat.{ℕ, zero, suc, ◌+◌}
use native.Mathlib.Omega.{arith}
use lib.ListN.{length, length-append}
use lib.Seq.{sets, length-sets}
use Rattle.journal_rules.specs.Gaps.{Framed, Piece, piece_of, gap_to, gap_pieces, pieces_from}
use Rattle.merger_rules.specs.Merging.{ReleaseStep, release_of}
use Rattle.merger_rules.specs.declared.Released.TheVariants.{NothingReady}
use Rattle.merger_rules.proofs.TakenOut.{not_ready}
use Rattle.merging_shelf.specs.Slots.{count_freed}
use Rattle.recorder_rules.specs.Makings.{rendered, record_bytes}
use Rattle.recorder_rules.specs.declared.Laid.{Laid}
use Rattle.recorder_rules.proofs.Laying.{rendered_append}
use Rattle.sync_rooms.proofs.Rooms.{sets_append}
use Rattle.merging_rules.specs.Accounts.{gone_by}
use Rattle.merging_rules.specs.Piles.{Pile, Handed, handed, then, frames_out, shelf_without, released, released_times}
use Rattle.merging_rules.specs.Works.{last_written, bytes_of, FramesLaid}

-- ---- frames behind frames

pieces_more : (e : Option ℕ) (fs gs : List Framed) → pieces_from e (fs ++ gs) ≡ pieces_from e fs ++ pieces_from (last_written e fs) gs
unfolding pieces_from last_written
pieces_more e [] gs = refl
pieces_more e (f ∷ fs) gs =
    ap (λ (l : List Piece). gap_pieces (gap_to e f.place) ++ (piece_of f ∷ l)) (pieces_more (Some f.place) fs gs)
    ∙ sym (append_assoc (gap_pieces (gap_to e f.place)) (piece_of f ∷ pieces_from (Some f.place) fs) (pieces_from (last_written (Some f.place) fs) gs))

pub bytes_more : (e : Option ℕ) (fs gs : List Framed) → bytes_of e (fs ++ gs) ≡ bytes_of e fs ++ bytes_of (last_written e fs) gs
bytes_more e fs gs = ap (rendered record_bytes) (pieces_more e fs gs) ∙ rendered_append record_bytes (pieces_from e fs) (pieces_from (last_written e fs) gs)

pub last_more : (e : Option ℕ) (fs gs : List Framed) → last_written e (fs ++ gs) ≡ last_written (last_written e fs) gs
unfolding last_written
last_more e [] gs = refl
last_more e (f ∷ fs) gs = last_more (Some f.place) fs gs

pub bytes_none : (e : Option ℕ) → bytes_of e [] ≡ []
unfolding rendered pieces_from
bytes_none e = refl

pub laid_nothing : (out : List ℕ) (l : Laid) → FramesLaid out out l [] l
unfolding last_written
laid_nothing out l =
    record { size = omega (arith, ap length (bytes_none l.earlier)); earlier = refl; stored = sym (ap (sets out l.size) (bytes_none l.earlier)) }

pub laid_more : (out mid left : List ℕ) (before between after : Laid) (fs gs : List Framed) → FramesLaid out mid before fs between → FramesLaid mid left between gs after
    → FramesLaid out left before (fs ++ gs) after
laid_more out mid left before between after fs gs a b =
    let F = bytes_of before.earlier fs in
    let G = bytes_of (last_written before.earlier fs) gs in
    let same : bytes_of between.earlier gs ≡ G = ap (λ (e : Option ℕ). bytes_of e gs) a.earlier in
    let both : bytes_of before.earlier (fs ++ gs) ≡ F ++ G = bytes_more before.earlier fs gs in
    record {
      size = omega (arith, a.size, b.size, ap length same, ap length both, length-append F G);
      earlier = b.earlier ∙ ap (λ (e : Option ℕ). last_written e gs) a.earlier ∙ sym (last_more before.earlier fs gs);
      stored =
          b.stored
          ∙ ap (sets mid between.size) same
          ∙ ap₂ (λ (l : List ℕ) (i : ℕ). sets l i G) a.stored a.size
          ∙ sets_append out before.size F G
          ∙ ap (sets out before.size) (sym both);
    }

pub laid_long : (out left : List ℕ) (before after : Laid) (fs : List Framed) → FramesLaid out left before fs after → length left ≡ length out
laid_long out left before after fs a = ap length a.stored ∙ length-sets out before.size (bytes_of before.earlier fs)

-- ---- what two calls hand on, whatever calls of the merger they made
pub record Same (g h : Handed) : Type 0 where
  pub pile : g.pile ≡ h.pile
  pub out : g.out ≡ h.out

pub then_same : (g h : Handed) (f k : Pile → Handed) → Same g h → ((p : Pile) → Same (f p) (k p)) → Same (then g f) (then h k)
then_same g h f k s t =
    record {
      pile = (t g.pile).pile ∙ ap (λ (p : Pile). (k p).pile) s.pile;
      out = ap₂ (λ (a b : List Framed). a ++ b) s.out ((t g.pile).out ∙ ap (λ (p : Pile). (k p).out) s.pile);
    }

module _ (a b : Option ℕ) (flush : Bool) where
  -- nothing is ready: all stays
  pub idle_released : (p : Pile) → (release_of a b flush p.merger).answer ≡ NothingReady → Same (released a b flush p) (handed p [] [])
  idle_released p e =
      let s = not_ready a b flush p.merger e in
      record {
        pile = ap (λ (y : ReleaseStep). record { merger = y.next; shelf = shelf_without y.freed p.shelf; answered = p.answered; gone = gone_by y.answer (count_freed y.freed) p.gone }) s;
        out = ap (λ (y : ReleaseStep). frames_out p.shelf y.freed y.answer) s;
      }

  pub idle_times : (n : ℕ) (p : Pile) → (release_of a b flush p.merger).answer ≡ NothingReady → Same (released_times n a b flush p) (handed p [] [])
  unfolding released_times
  idle_times zero p e = record { pile = refl; out = refl }
  idle_times (suc n) p e =
      let s = idle_released p e in
      let r = idle_times n p e in
      record {
        pile = ap (λ (q : Pile). (released_times n a b flush q).pile) s.pile ∙ r.pile;
        out = ap₂ (λ (x y : List Framed). x ++ y) s.out (ap (λ (q : Pile). (released_times n a b flush q).out) s.pile ∙ r.out);
      }

  -- as often, and then as often again
  pub times_add : (m n : ℕ) (p : Pile) → Same (released_times (m + n) a b flush p) (then (released_times m a b flush p) (released_times n a b flush))
  unfolding released_times
  times_add zero n p = record { pile = ap (λ (k : ℕ). (released_times k a b flush p).pile) (none n); out = ap (λ (k : ℕ). (released_times k a b flush p).out) (none n) }
    where
      none : (n : ℕ) → 0 + n ≡ n
      none n = omega arith
  times_add (suc m) n p =
      let q = (released a b flush p).pile in
      let r = times_add m n q in
      record {
        pile = ap (λ (k : ℕ). (released_times k a b flush p).pile) (more m n) ∙ r.pile;
        out = ap (λ (k : ℕ). (released_times k a b flush p).out) (more m n) ∙ ap (λ (l : List Framed). (released a b flush p).out ++ l) r.out
            ∙ sym (append_assoc (released a b flush p).out (released_times m a b flush q).out (released_times n a b flush (released_times m a b flush q).pile).out);
      }
    where
      more : (m n : ℕ) → suc m + n ≡ suc (m + n)
      more m n = omega arith

  pub times_one : (p : Pile) → Same (released_times 1 a b flush p) (released a b flush p)
  unfolding released_times
  times_one p = record { pile = refl; out = append-nil (released a b flush p).out }

  -- a release tells of no frame
  pub times_told : (n : ℕ) (p : Pile) → (released_times n a b flush p).pile.answered ≡ p.answered
  unfolding released_times
  times_told zero p = refl
  times_told (suc n) p = times_told n (released a b flush p).pile
