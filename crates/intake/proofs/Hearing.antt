-- What a program's loop keeps, from the start on, over a read and over a step.
-- Assumes nothing.
use mathlib.Core.Path.{◌≡◌, refl, sym, ap, ◌∙◌, subst}
use mathlib.Core.Logic.{⊎_elim}
use mathlib.Core.Bool.{Bool}
use mathlib.Core.List.{List, [], ◌∷◌, ◌++◌}
use Prim.Native.Nat.{ℕ, ◌+◌, ◌*◌, ◌/◌, ◌%◌, ◌^◌, ◌≤◌}
use native.Mathlib.Omega.{arith}
use lib.ListN.{length, take}
use lib.Seq.{length-sets, length-take-le}
use Rattle.bits.proofs.Conds.{cond_both}
use Rattle.sync.specs.View.{view}
use Rattle.sync_call_rules.specs.Calls.{Got}
use Rattle.sync_call_rules.proofs.Shown.{shown_length}
use Rattle.sync_call_rules.proofs.Feeding.{feed_rules_lem}
use Rattle.sync_inputs.proofs.Inputs.{length_packed}
use Rattle.sync_inputs.specs.Inputs.{hardly, unpacked}
use Rattle.sync_rules.specs.Counts.{state_after}
use Rattle.sync_rules.specs.Demand.{sent_by}
use Rattle.sync_rules.specs.Pushes.{run}
use Rattle.sync_rules.specs.State.{State, Input, hard}
use Rattle.sync_rules.proofs.Reaching.{all_rules}
use Rattle.recorder_rules.specs.Calls.{Gone, pushed_by, frames_for}
use Rattle.recorder_rules.specs.Makings.{Making, Sequential, accepted_in}
use Rattle.recorder_rules.specs.Statements.{Fresh}
use Rattle.recorder_rules.specs.Steps.{ValidRecorder, dibits_of, room_for, SteppedBy}
use Rattle.recorder_rules.specs.declared.Recorder.{Recorder}
use Rattle.recorder_rules.specs.declared.Stepped.{Stepped}
use Rattle.recorder_rules.proofs.Going.{step_rules_lem}
use Rattle.recorder_rules.proofs.Histories.{steps_make_lem}
use Rattle.recorder_rules.proofs.Passing.{gone_none, gone_more, gone_wide, made_by}
use Rattle.intake.specs.Heard.{Heard, Hearing}
use Rattle.intake.specs.Pieces.{cursor_at, SoundCursor, NewPiece, RefilledBy}
use Rattle.intake.specs.declared.Cursor.{Cursor}
use Rattle.intake.specs.declared.Going.{Going}
use Rattle.intake.specs.declared.Going.TheVariants.{On}

-- ---- the dibits of bytes behind bytes

map_append : (xs ys : List ℕ) → hardly (xs ++ ys) ≡ hardly xs ++ hardly ys
map_append [] ys = refl
map_append (x ∷ xs) ys = ap (λ (l : List Input). hard x ∷ l) (map_append xs ys)

unpacked_append : (xs ys : List ℕ) → unpacked (xs ++ ys) ≡ unpacked xs ++ unpacked ys
unfolding unpacked
unpacked_append [] ys = refl
unpacked_append (x ∷ xs) ys = ap (λ (l : List ℕ). x / 64 % 4 ∷ x / 16 % 4 ∷ x / 4 % 4 ∷ x % 4 ∷ l) (unpacked_append xs ys)

pub dibits_append : (xs ys : List ℕ) → dibits_of (xs ++ ys) 0 ≡ dibits_of xs 0 ++ dibits_of ys 0
dibits_append xs ys = ap hardly (unpacked_append xs ys) ∙ map_append (unpacked xs) (unpacked ys)

none_left : (l : List Input) → length l ≡ 0 → l ≡ []
none_left [] e = refl
none_left (x ∷ l) e = absurd (omega arith)

pub used_up : (bytes : List ℕ) (from : ℕ) → 4 * length bytes ≤ from → dibits_of bytes from ≡ []
used_up bytes from h = none_left (dibits_of bytes from) (omega (arith, length_packed bytes from))

-- ---- a read

heard_read : (p : Making) (s : Recorder) (a : ℕ) (rest : List Input) (piece : List ℕ) → rest ≡ [] → Heard p s rest a → Heard p s (dibits_of piece 0) a
heard_read p s a rest piece e h =
    record {
      fresh = h.fresh;
      start = h.start;
      bytes = h.bytes ++ piece;
      gone =
          subst (λ (ds : List Input). Gone p h.fresh ds s (dibits_of piece 0) a) (sym (dibits_append h.bytes piece))
          (subst (λ (l : List Input). Gone p h.fresh (dibits_of h.bytes 0 ++ dibits_of piece 0) s (l ++ dibits_of piece 0) a) e (gone_wide p h.fresh s (dibits_of h.bytes 0) rest (dibits_of piece 0) a h.gone));
    }

module _ (p : Making) (s : Recorder) (before after : List ℕ) (c r : Cursor) (a : ℕ) (h : Hearing p s before c a) where
  stayed : (r ≡ c) × (after ≡ before) → Hearing p s after r a
  stayed e = subst (λ (d : Cursor). Hearing p s after d a) (sym e.0) (subst (λ (b : List ℕ). Hearing p s b c a) (sym e.1) h)

  another : SoundCursor r after → NewPiece c r → Hearing p s after r a
  another w n =
      let long : length (take c.size before) ≡ c.size = length-take-le c.size before h.sound.size in
      let all : dibits_of (take c.size before) c.from ≡ [] = used_up (take c.size before) c.from (omega (arith, n.spent)) in
      let heard = heard_read p s a (dibits_of (take c.size before) c.from) (take r.size after) all h.heard in
      record { valid = h.valid; sound = w; heard = subst (λ (k : ℕ). Heard p s (dibits_of (take r.size after) k) a) (sym n.front) heard }

  pub hearing_refilled : RefilledBy before after c r → SoundCursor r after → Hearing p s after r a
  hearing_refilled f w = ⊎_elim stayed (another w) f

-- ---- the start

pub hearing_start : (p : Making) (r : Recorder) (buffer : List ℕ) → Fresh r → Hearing p r buffer (cursor_at 0 0 On) 0
unfolding unpacked
hearing_start p r buffer f =
    record {
      valid = f.valid;
      sound = record { size = omega arith; from = omega arith };
      heard = record { fresh = r; start = f; bytes = []; gone = gone_none p r (dibits_of [] 0) };
    }

-- ---- a step

pub stepped_length : (p : Making) (out left : List ℕ) (xs : List Input) (s : Recorder) (b : Stepped) → SteppedBy p out left xs s b → length left ≡ length out
stepped_length p out left xs s b m = ap length m.stored ∙ simp length-sets

module _ (p : Making) (s : Recorder) (buffer : List ℕ) (c : Cursor) (a : ℕ) (out left : List ℕ) (b : Stepped) (h : Hearing p s buffer c a) (m : SteppedBy p out left (dibits_of (take c.size buffer) c.from) s b) where
  pub step_used : c.from + b.used ≤ 4 * c.size
  step_used =
      let long : length (take c.size buffer) ≡ c.size = length-take-le c.size buffer h.sound.size in
      omega (arith, m.used, (feed_rules_lem (room_for p.need (length out)) (dibits_of (take c.size buffer) c.from) (view s.sync)).few, length_packed (take c.size buffer) c.from, h.sound.from)

  -- what it laid lies in the lent memory
  pub step_fits : Sequential p → b.size ≤ length left
  step_fits q =
      omega (arith, stepped_length p out left (dibits_of (take c.size buffer) c.from) s b m, (step_rules_lem p q s (take c.size buffer) c.from out left b m).fits)

  pub hearing_stepped : (g : Going) → Hearing p b.next buffer (cursor_at c.size (c.from + b.used) g) (a + b.accepted)
  hearing_stepped g =
      let was = h.heard in
      record {
        valid = m.valid;
        sound = record { size = h.sound.size; from = step_used };
        heard =
            record {
              fresh = was.fresh;
              start = was.start;
              bytes = was.bytes;
              gone = gone_more p was.fresh s b.next (dibits_of was.bytes 0) (take c.size buffer) c.from b.used a b.accepted was.gone (made_by p s (take c.size buffer) c.from out left b m);
            };
      }

-- ---- how many frames were accepted

accepted_few : (f : List ℕ → Bool) (gs : List Got) → accepted_in f gs ≤ length gs
unfolding accepted_in
accepted_few f [] = omega arith
accepted_few f (g ∷ gs) = omega (arith, accepted_few f gs, cond_both (λ (n : ℕ). n ≤ 1) (f g.envelope) 1 0 (omega arith) (omega arith))

-- the frames that pushes from the start sent are the frames counted
counted : (xs : List Input) → (state_after xs).figures.frames ≡ length (sent_by [] xs)
unfolding sent_by run
counted xs = (all_rules xs).pushed.2

module _ (p : Making) (q : Sequential p) (s : Recorder) (rest : List Input) (a : ℕ) (h : Heard p s rest a) where
  pub heard_accepted : a ≤ (view s.sync).figures.frames
  heard_accepted =
      let g = h.gone in
      let w = steps_make_lem p q h.fresh h.start g.steps g.history in
      let xs = pushed_by g.steps in
      let there : (view s.sync).figures.frames ≡ (state_after xs).figures.frames = ap (λ (z : Recorder). (view z.sync).figures.frames) (sym g.there) ∙ ap (λ (m : State). m.figures.frames) w.next in
      omega (arith, g.counts, w.accepted, accepted_few p.accepts (frames_for xs), shown_length (sent_by [] xs), counted xs)

  pub heard_few : ValidRecorder s → a ≤ 2 ^ 42
  heard_few v = omega (arith, heard_accepted, v.sync.steady.sound.grid, v.sync.steady.sound.tide, v.sync.steady.sound.taken_few)

-- ---- a turn of a program's loop: a read where it is due, and a step

module _ (p : Making) (q : Sequential p) (s : Recorder) (before after : List ℕ) (c r : Cursor) (a : ℕ) (h : Hearing p s before c a) (f : RefilledBy before after c r) (w : SoundCursor r after)
    (out left : List ℕ) (b : Stepped) (m : SteppedBy p out left (dibits_of (take r.size after) r.from) s b) where
  piece_there : Hearing p s after r a
  piece_there = hearing_refilled p s before after c r a h f w

  pub turn_fits : b.size ≤ length left
  turn_fits = step_fits p s after r a out left b piece_there m q

  pub turn_used : r.from + b.used ≤ 4 * r.size
  turn_used = step_used p s after r a out left b piece_there m

  pub turn_next : (g : Going) (next : Cursor) → next ≡ cursor_at r.size (r.from + b.used) g → Hearing p b.next after next (a + b.accepted)
  turn_next g next e = subst (λ (z : Cursor). Hearing p b.next after z (a + b.accepted)) (sym e) (hearing_stepped p s after r a out left b piece_there m g)
