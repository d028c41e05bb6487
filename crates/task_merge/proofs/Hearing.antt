-- What the loop of `merge` keeps, from the start on, over a read of either stream and over a step.
-- Assumes nothing.
use mathlib.Core.Path.{◌≡◌, refl, sym, ap, ◌∙◌, subst}
use mathlib.Core.Logic.{⊎_elim}
use mathlib.Core.Bool.{Bool, true, false, not, true≢false}
use mathlib.Core.List.{List, [], ◌∷◌, ◌++◌}
use Prim.Native.Nat.{ℕ, ◌+◌, ◌*◌, ◌-◌, ◌≤◌, min}
use native.Mathlib.Omega.{arith}
use borrow.Author.Tests.{leb-true, leb-false}
use lib.Dec.{leb}
use lib.ListN.{length, take, drop}
use lib.Seq.{length-sets, length-take-le}
use Rattle.intake.specs.Pieces.{cursor_at, is_on, going_beside, SoundCursor, NewPiece, RefilledBy}
use Rattle.intake.specs.declared.Cursor.{Cursor}
use Rattle.intake.specs.declared.Going.{Going}
use Rattle.intake.specs.declared.Going.TheVariants.{On}
use Rattle.intake.proofs.Hearing.{used_up}
use Rattle.merge_recorder_rules.specs.Calls.{dibits_in, MergeCalled, MergeMeets, MergeHistory, merge_state, merge_rest}
use Rattle.merge_recorder_rules.specs.Statements.{MergeFresh}
use Rattle.merge_recorder_rules.specs.Steps.{available_of, ValidMerge, MergeSteppedBy, MergeFlushedBy}
use Rattle.merge_recorder_rules.specs.declared.MergeRecorder.{MergeRecorder}
use Rattle.merge_recorder_rules.specs.declared.MergeStepped.{MergeStepped}
use Rattle.recorder_rules.proofs.Passing.{dibits_on}
use Rattle.recorder_rules.specs.Makings.{Trying}
use Rattle.recorder_rules.specs.Steps.{dibits_of}
use Rattle.sync_rules.specs.State.{Input}
use Rattle.task_merge.specs.Heard.{Side, primary_side, alternate_side, OneThrough, StillOpen, Followed, rest_in, BothHearing}
use Rattle.task_merge.proofs.Following.{AllWithin, followed_read, followed_step}

-- ---- what a step that was met uses

available_first : (over ended : Bool) (a b : ℕ) → over ≡ false → available_of over ended a b ≤ a
available_first true ended a b e = absurd (true≢false e)
available_first false true a b e = omega arith
available_first false false a b e = omega arith

available_second : (over ended : Bool) (a b : ℕ) → ended ≡ false → available_of over ended a b ≤ b
available_second over true a b e = absurd (true≢false e)
available_second true false a b e = omega arith
available_second false false a b e = omega arith

module _ (try : Trying) where
  within_first : (cs : List MergeCalled) (r : MergeRecorder) → MergeHistory try r cs → AllWithin primary_side cs
  unfolding MergeHistory
  within_first [] r h = tt
  within_first (c ∷ cs) r h =
      (λ o. omega (arith, h.0.few, available_first c.primary.over c.alternate.over (length (dibits_in c.primary)) (length (dibits_in c.alternate)) o), within_first cs c.answer.next h.1)

  within_second : (cs : List MergeCalled) (r : MergeRecorder) → MergeHistory try r cs → AllWithin alternate_side cs
  unfolding MergeHistory
  within_second [] r h = tt
  within_second (c ∷ cs) r h =
      (λ o. omega (arith, h.0.few, available_second c.primary.over c.alternate.over (length (dibits_in c.primary)) (length (dibits_in c.alternate)) o), within_second cs c.answer.next h.1)

  history_snoc : (cs : List MergeCalled) (r : MergeRecorder) (c : MergeCalled) → MergeHistory try r cs → MergeMeets try (merge_state r cs) c → MergeHistory try r (cs ++ (c ∷ []))
  unfolding MergeHistory merge_state
  history_snoc [] r c h m = (m, refl)
  history_snoc (b ∷ cs) r c h m = (h.0, history_snoc cs b.answer.next c h.1 m)

state_snoc : (cs : List MergeCalled) (r : MergeRecorder) (c : MergeCalled) → merge_state r (cs ++ (c ∷ [])) ≡ c.answer.next
unfolding merge_state
state_snoc [] r c = refl
state_snoc (b ∷ cs) r c = state_snoc cs b.answer.next c

-- ---- a read of one stream

module _ (side : Side) (cs : List MergeCalled) (w : AllWithin side cs) (before after : List ℕ) (c r : Cursor) (s : SoundCursor c before) where
  another : NewPiece c r → Followed side cs (rest_in before c) (is_on c.going) → Followed side cs (rest_in after r) (is_on r.going)
  another n f =
      let long : length (take c.size before) ≡ c.size = length-take-le c.size before s.size in
      let all : rest_in before c ≡ [] = used_up (take c.size before) c.from (omega (arith, n.spent)) in
      subst (λ (k : ℕ). Followed side cs (dibits_of (take r.size after) k) (is_on r.going)) (sym n.front)
      (followed_read side cs (rest_in before c) (take r.size after) (is_on r.going) w all (subst (Followed side cs (rest_in before c)) n.on f))

  followed_refilled : RefilledBy before after c r → Followed side cs (rest_in before c) (is_on c.going) → Followed side cs (rest_in after r) (is_on r.going)
  followed_refilled f g =
      ⊎_elim
      (λ (e : (r ≡ c) × (after ≡ before)). subst (λ (d : Cursor). Followed side cs (rest_in after d) (is_on d.going)) (sym e.0) (subst (λ (b : List ℕ). Followed side cs (rest_in b c) (is_on c.going)) (sym e.1) g))
      (λ (n : NewPiece c r). another n g) f

module _ (try : Trying) (s : MergeRecorder) (first second : List ℕ) (one two : Cursor) (h : BothHearing try s first one second two) where
  pub primary_refilled : (after : List ℕ) (r : Cursor) → RefilledBy first after one r → SoundCursor r after → BothHearing try s after r second two
  primary_refilled after r f w =
      let b = h.heard in
      record {
        valid = h.valid;
        sound = w;
        other = h.other;
        heard = record { fresh = b.fresh; start = b.start; steps = b.steps; history = b.history; led = b.led; primary = followed_refilled primary_side b.steps (within_first try b.steps b.fresh b.history) first after one r h.sound f b.primary; alternate = b.alternate };
      }

  pub alternate_refilled : (after : List ℕ) (r : Cursor) → RefilledBy second after two r → SoundCursor r after → BothHearing try s first one after r
  alternate_refilled after r f w =
      let b = h.heard in
      record {
        valid = h.valid;
        sound = h.sound;
        other = w;
        heard = record { fresh = b.fresh; start = b.start; steps = b.steps; history = b.history; led = b.led; primary = b.primary; alternate = followed_refilled alternate_side b.steps (within_second try b.steps b.fresh b.history) second after two r h.other f b.alternate };
      }

-- ---- the start

goes_start : (side : Side) → Followed side [] (dibits_of [] 0) true
unfolding OneThrough merge_rest StillOpen
goes_start side = record { bytes = []; through = refl; left = refl; still = λ e. tt }

pub both_start : (try : Trying) (r : MergeRecorder) (first second : List ℕ) → ValidMerge r → MergeFresh r → BothHearing try r first (cursor_at 0 0 On) second (cursor_at 0 0 On)
unfolding MergeHistory merge_state
both_start try r first second v f =
    record {
      valid = v;
      sound = record { size = omega arith; from = omega arith };
      other = record { size = omega arith; from = omega arith };
      heard = record { fresh = r; start = f; steps = []; history = refl; led = refl; primary = goes_start primary_side; alternate = goes_start alternate_side };
    }

-- ---- a step

as_few : (a b : ℕ) → a ≤ b → a ≡ min a b
as_few a b l = omega arith

-- the rest of a piece of which no more is used than it has
rest_behind : (bytes : List ℕ) (from used : ℕ) → drop used (dibits_of bytes from) ≡ dibits_of bytes (from + min used (4 * length bytes - from))
rest_behind bytes from used =
    dibits_on bytes from used
    ∙ by (leb used (4 * length bytes - from)) refl
  where
    by : (b : Bool) → leb used (4 * length bytes - from) ≡ b → dibits_of bytes (from + used) ≡ dibits_of bytes (from + min used (4 * length bytes - from))
    by true e = let l = leb-true used (4 * length bytes - from) e in ap (λ (k : ℕ). dibits_of bytes (from + k)) (as_few used (4 * length bytes - from) l)
    by false e =
        let l = leb-false used (4 * length bytes - from) e in
        used_up bytes (from + used) (omega (arith, l)) ∙ sym (used_up bytes (from + min used (4 * length bytes - from)) (omega (arith, l)))

beside_on : (w : Bool) (g : Going) → is_on (going_beside w g) ≡ true → (is_on g ≡ true) × (not (is_on g) ≡ false)
beside_on true g e = (e, ap not e)
beside_on false g e = absurd (true≢false (sym e))

module _ (try : Trying) (s : MergeRecorder) (first second : List ℕ) (one two : Cursor) (h : BothHearing try s first one second two) (out left : List ℕ) (b : MergeStepped)
    (m : MergeSteppedBy try out left (rest_in first one) (not (is_on one.going)) (rest_in second two) (not (is_on two.going)) s b) (v : ValidMerge b.next) (w : Bool) where
  abbrev call : MergeCalled
  call =
      record {
        primary = record { bytes = take one.size first; from = one.from; over = not (is_on one.going) };
        alternate = record { bytes = take two.size second; from = two.from; over = not (is_on two.going) };
        out = out;
        left = left;
        answer = b;
      }

  abbrev behind : Cursor → Cursor
  behind c = cursor_at c.size (c.from + min b.used (4 * c.size - c.from)) (going_beside w c.going)

  sound_behind : (c : Cursor) (buffer : List ℕ) → SoundCursor c buffer → SoundCursor (behind c) buffer
  sound_behind c buffer k = record { size = k.size; from = omega (arith, k.from) }

  rest_is : (c : Cursor) (buffer : List ℕ) → SoundCursor c buffer → drop b.used (rest_in buffer c) ≡ rest_in buffer (behind c)
  rest_is c buffer k =
      let long : length (take c.size buffer) ≡ c.size = length-take-le c.size buffer k.size in
      rest_behind (take c.size buffer) c.from b.used ∙ ap (λ (n : ℕ). dibits_of (take c.size buffer) (c.from + min b.used (4 * n - c.from))) long

  pub both_stepped : BothHearing try b.next first (behind one) second (behind two)
  both_stepped =
      let g = h.heard in
      record {
        valid = v;
        sound = sound_behind one first h.sound;
        other = sound_behind two second h.other;
        heard =
            record {
              fresh = g.fresh;
              start = g.start;
              steps = g.steps ++ (call ∷ []);
              history = history_snoc try g.steps g.fresh call g.history (subst (λ (z : MergeRecorder). MergeMeets try z call) (sym g.led) m);
              led = state_snoc g.steps g.fresh call;
              primary = subst (λ (l : List Input). Followed primary_side (g.steps ++ (call ∷ [])) l (is_on (behind one).going)) (rest_is one first h.sound) (followed_step primary_side g.steps (rest_in first one) (is_on one.going) (is_on (behind one).going) call refl (beside_on w one.going) g.primary);
              alternate = subst (λ (l : List Input). Followed alternate_side (g.steps ++ (call ∷ [])) l (is_on (behind two).going)) (rest_is two second h.other) (followed_step alternate_side g.steps (rest_in second two) (is_on two.going) (is_on (behind two).going) call refl (beside_on w two.going) g.alternate);
            };
      }

-- ---- what was laid lies in the memory that was lent

pub step_fits : (try : Trying) (out left : List ℕ) (xs : List Input) (over : Bool) (ys : List Input) (ended : Bool) (r : MergeRecorder) (a : MergeStepped) → MergeSteppedBy try out left xs over ys ended r a → a.size ≤ length left
step_fits try out left xs over ys ended r a m = let same : length left ≡ length out = ap length m.stored ∙ simp length-sets in omega (arith, m.fits)

pub step_length : (try : Trying) (out left : List ℕ) (xs : List Input) (over : Bool) (ys : List Input) (ended : Bool) (r : MergeRecorder) (a : MergeStepped) → MergeSteppedBy try out left xs over ys ended r a → length left ≡ length out
step_length try out left xs over ys ended r a m = ap length m.stored ∙ simp length-sets

pub flush_fits : (out left : List ℕ) (r : MergeRecorder) (a : MergeStepped) → MergeFlushedBy out left r a → a.size ≤ length left
flush_fits out left r a m = let same : length left ≡ length out = ap length m.stored ∙ simp length-sets in omega (arith, m.fits)

-- ---- a turn of the loop: a read of each stream where it is due, and a step

module _ (try : Trying) (s : MergeRecorder) (first second : List ℕ) (one two : Cursor) (h : BothHearing try s first one second two)
    (here there : List ℕ) (c d : Cursor) (f : RefilledBy first here one c) (v : SoundCursor c here) (g : RefilledBy second there two d) (w : SoundCursor d there) where
  pub both_refilled : BothHearing try s here c there d
  both_refilled = alternate_refilled try s here second c two (primary_refilled try s first second one two h here c f v) there d g w

  pub both_next : (out left : List ℕ) (b : MergeStepped) → MergeSteppedBy try out left (rest_in here c) (not (is_on c.going)) (rest_in there d) (not (is_on d.going)) s b → ValidMerge b.next → (written : Bool) (c' d' : Cursor)
      → c' ≡ cursor_at c.size (c.from + min b.used (4 * c.size - c.from)) (going_beside written c.going) → d' ≡ cursor_at d.size (d.from + min b.used (4 * d.size - d.from)) (going_beside written d.going)
      → BothHearing try b.next here c' there d'
  both_next out left b m z written c' d' e k =
      subst (λ (x : Cursor). BothHearing try b.next here x there d') (sym e)
      (subst (λ (y : Cursor). BothHearing try b.next here (cursor_at c.size (c.from + min b.used (4 * c.size - c.from)) (going_beside written c.going)) there y) (sym k)
      (both_stepped try s here there c d both_refilled out left b m z written))
