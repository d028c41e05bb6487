-- A stream that is fed, and what it brings.
-- Assumes nothing.
use Rattle.std.proofs.Common.{Option, Result}
use mathlib.Core.Path.{◌≡◌, sym, ap, ap₂, subst, ◌∙◌}
use mathlib.Core.List.{List, [], ◌∷◌, ◌++◌}
use Prim.Native.Nat.{ℕ, zero, suc, ◌+◌, ◌*◌, ◌≤◌, ◌<◌}
use native.Mathlib.Omega.{arith}
use lib.ListN.{length, get_or, take, drop}
use lib.Seq.{drop-drop, length-take-le, get_or-take}
use Rattle.bits.specs.Bit.{Bits}
use Rattle.bits.specs.Sizes.{most_offset}
use Rattle.journal_rules.specs.Gaps.{Framed}
use Rattle.merge_recorder_rules.specs.Steps.{Going}
use Rattle.merge_stretches.specs.Stretches.{settled_by}
use Rattle.merging_rules.specs.Piles.{Pile, Handed, then}
use Rattle.merging_rules.specs.Turns.{fed}
use Rattle.merging_rules.specs.Works.{pile_of, FramesLaid, MovedBy, Storable}
use Rattle.merging_rules.specs.declared.Work.{Work}
use Rattle.merging_rules.proofs.Handing.{laid_more}
use Rattle.recorder_rules.specs.Steps.{dibits_of}
use Rattle.recorder_rules.specs.declared.Laid.{Laid}
use Rattle.recorder_rules.proofs.Feeding.{packed_dibits, dibits_taken}
use Rattle.recorder_rules.proofs.Rising.{Onward, onward_le, Dibits, run_goes}
use Rattle.sync_call_rules.specs.Calls.{slots}
use Rattle.sync_call_rules.proofs.Feeding.{feed_rules_lem}
use Rattle.sync_call_rules.proofs.Histories.{heads_are, fed_fits}
use Rattle.sync_call_rules.proofs.Slots.{read_slots}
use Rattle.sync_frames.specs.Frames.{heads_of, DrainedBy}
use Rattle.sync_inputs.specs.Inputs.{hardly, unpacked}
use Rattle.sync_inputs.proofs.Inputs.{take_hardly, drop_hardly}
use Rattle.sync_numbers.specs.View.{view_of, Steady, Rings}
use Rattle.sync_numbers.specs.declared.numbers.Numbers.{Numbers}
use Rattle.sync_rings.proofs.Marks.{ring_binary}
use Rattle.sync_rules.specs.Frames.{Frame, no_head}
use Rattle.sync_rules.specs.Pushes.{run, step}
use Rattle.sync_rules.specs.State.{State, Input}
use Rattle.sync_rules.specs.declared.Head.{Head}
use Rattle.sync_rules.proofs.Taken.{step_taken}
use Rattle.sync_steps.specs.Feeds.{FedOut, fed_of, FedInto}
use Rattle.sync_steps.specs.declared.feeds.Into.{Into}
use Rattle.merge_recorder_turns.specs.Brought.{BroughtBy}
use Rattle.merge_recorder_turns.specs.declared.Brought as brought
use Rattle.bits.specs.declared.Refusal.{Refusal}

-- ---- the dibits

pub same_dibits : (bytes : List ℕ) (from i n : ℕ) → hardly (take n (drop (from + i) (unpacked bytes))) ≡ take n (drop i (dibits_of bytes from))
same_dibits bytes from i n =
    take_hardly (drop (from + i) (unpacked bytes)) n
    ∙ ap (λ (l : List ℕ). take n (hardly l)) (sym (drop-drop i from (unpacked bytes)))
    ∙ ap (take n) (sym (drop_hardly (drop from (unpacked bytes)) i))

dibits_dropped : (k : ℕ) (xs : List Input) → Dibits xs → Dibits (drop k xs)
dibits_dropped zero xs d = d
dibits_dropped (suc k) [] d = tt
dibits_dropped (suc k) (x ∷ xs) d = dibits_dropped k xs d.1

pub dibits_in_lem : (bytes : List ℕ) (from i n : ℕ) → Dibits (take n (drop i (dibits_of bytes from)))
dibits_in_lem bytes from i n = dibits_taken n (drop i (dibits_of bytes from)) (dibits_dropped i (dibits_of bytes from) (packed_dibits bytes from))

-- ---- the frames

held_binary : (bits reliabilities : List ℕ) (k : Numbers) → Rings bits reliabilities → Bits (view_of bits reliabilities k).held
held_binary bits reliabilities k r = ring_binary bits k.first (k.restorable + k.pending) r.binary

-- they stand one behind the other, before the clock
fed_goes : (room : ℕ) (xs : List Input) (m : State) → Bits m.held → Dibits xs → Onward m.figures.clock (fed_of room xs m).sent (fed_of room xs m).next.figures.clock
fed_goes room xs m b d =
    let r = feed_rules_lem room xs m in
    let used = (fed_of room xs m).used in
    let g = run_goes (take used xs) m (dibits_taken used xs d) b in
    subst (λ (fs : List Frame). Onward m.figures.clock fs (fed_of room xs m).next.figures.clock) (sym r.sent)
    (subst (λ (s : State). Onward m.figures.clock (run (take used xs) m).sent s.figures.clock) (sym r.next) g.onward)

heads_storable : (n : ℕ) (fs : List Frame) (e c : ℕ) → length fs ≤ n → c + 383 ≤ most_offset → Onward e fs c → (k : ℕ) → k < length fs → Storable (get_or (heads_of n fs) k no_head)
unfolding heads_of
heads_storable n [] e c h l w k i = absurd (omega arith)
heads_storable zero (f ∷ fs) e c h l w k i = absurd (omega arith)
heads_storable (suc n) (f ∷ fs) e c h l w zero i = record { ends = omega (arith, onward_le (f.offset + 384) fs c w.1.1); errors = w.1.0 }
heads_storable (suc n) (f ∷ fs) e c h l w (suc k) i = heads_storable n fs (f.offset + 384) c (omega arith) l w.1.1 k (omega arith)

-- the clock is low
clock_few : (k : Numbers) → Steady k → k.figures.clock + 383 ≤ most_offset
clock_few k s = omega (arith, s.low, s.sound.taken_few)

-- ---- the dibits taken

run_taken : (xs : List Input) (m : State) → (run xs m).next.figures.taken ≡ m.figures.taken + length xs
unfolding run
run_taken [] m = omega arith
run_taken (x ∷ xs) m = omega (arith, run_taken xs (step x m).next, step_taken x m)

run_some : (xs : List Input) (m : State) → 1 ≤ length (run xs m).sent → 1 ≤ length xs
unfolding run
run_some [] m h = h
run_some (x ∷ xs) m h = omega arith

sum_three : (n a b l : ℕ) → n ≤ 3 → b ≡ a + l → (1 ≤ n → 1 ≤ l) → 3 * a + n ≤ 3 * b
sum_three zero a b l h t s = omega arith
sum_three (suc n) a b l h t s = omega (arith, s (omega arith))

three_each : (room : ℕ) (xs : List Input) (m : State) → 3 * m.figures.taken + length (fed_of room xs m).sent ≤ 3 * (fed_of room xs m).next.figures.taken
three_each room xs m =
    let r = feed_rules_lem room xs m in
    let used = take (fed_of room xs m).used xs in
    sum_three (length (fed_of room xs m).sent) m.figures.taken (fed_of room xs m).next.figures.taken (length used) (fed_fits room xs m).most
    (ap (λ (s : State). s.figures.taken) r.next ∙ run_taken used m) (λ h. run_some used m (omega (arith, ap length r.sent)))

-- ---- what a feed brought
module _ (xs : List Input) (d : Dibits xs) (bits reliabilities : List ℕ) (k : Numbers) (g : Going bits reliabilities k) (bits' reliabilities' room room' : List ℕ) (r : Into) (large : length room ≡ 1296) where
  abbrev m : State
  m = view_of bits reliabilities k

  abbrev taken : Option ℕ → brought.Brought
  taken c = record { settled = c; numbers = r.drained.numbers; count = r.drained.count; heads = r.drained.heads }

  took_all : FedInto bits' reliabilities' room room' (fed xs m) r → BroughtBy xs m bits' reliabilities' room' (taken (settled_by r.took r.answer r.drained.numbers.figures.clock))
  took_all f =
      let s : DrainedBy bits' reliabilities' room room' 0 3 (record { sent = (fed xs m).sent; next = (fed xs m).next }) r.drained.numbers r.drained.count r.drained.heads = f.drained in
      let w = fed_fits 1296 xs m in
      let fs = (fed xs m).sent in
      let clock : r.drained.numbers.figures.clock ≡ (fed xs m).next.figures.clock = ap (λ (z : State). z.figures.clock) s.next in
      record {
        sound = record { rings = f.rings; steady = s.steady; few = s.few };
        next = s.next;
        settled = ap₂ (λ (n : ℕ) (a : Result Unit Refusal). settled_by n a r.drained.numbers.figures.clock) f.used f.answer ∙ ap (settled_by (fed xs m).used (fed xs m).answer) clock;
        count = s.many;
        frames = ap₂ (λ (hs : List Head) (l : List ℕ). slots hs l 0) (heads_are r.drained.count r.drained.heads fs w.most s.many s.figures) s.stored ∙ read_slots fs room 0 w.fit (omega (arith, w.most));
        few = record {
          three = omega (arith, s.many, w.most);
          storable = λ j i. subst (λ (hs : List Head). Storable (get_or hs j no_head)) (sym s.figures) (heads_storable 3 fs m.figures.clock (fed xs m).next.figures.clock w.most (omega (arith, clock, clock_few r.drained.numbers s.steady)) (fed_goes 1296 xs m (held_binary bits reliabilities k g.rings) d) j (omega (arith, s.many)));
        };
        taken = omega (arith, three_each 1296 xs m, s.many, ap (λ (z : State). z.figures.taken) s.next);
      }

  pub took_as : (zs : List Input) → zs ≡ xs → FedInto bits' reliabilities' room room' (fed_of (length room) zs m) r
      → (c : Option ℕ) → c ≡ settled_by r.took r.answer r.drained.numbers.figures.clock → BroughtBy xs m bits' reliabilities' room' (taken c)
  took_as zs e f c k =
      subst (λ (z : Option ℕ). BroughtBy xs m bits' reliabilities' room' (taken z)) (sym k)
      (took_all (subst (λ (o : FedOut). FedInto bits' reliabilities' room room' o r) (ap₂ (λ (n : ℕ) (ys : List Input). fed_of n ys m) large e) f))

-- the frames of a push, as they are handed in
module _ (n : ℕ) (hs : List Head) (long : length hs ≡ 3) (few : n ≤ 3) where
  pub heads_few : length (take n hs) ≡ n
  heads_few = length-take-le n hs (omega arith)

  pub heads_fit : ((k : ℕ) → k < n → Storable (get_or hs k no_head)) → (length (take n hs) ≤ 3) × ((k : ℕ) → k < length (take n hs) → Storable (get_or (take n hs) k no_head))
  heads_fit fit =
      (omega (arith, heads_few), λ k i. let j : k < n = omega (arith, heads_few) in subst Storable (sym (get_or-take n hs k no_head j)) (fit k j))

-- ---- a call, and then another on what it leaves
pub moved_then : (g : Handed) (f : Pile → Handed) (out mid left : List ℕ) (before between after : Laid) (w u : Work) → MovedBy g out mid before w between → MovedBy (f (pile_of w)) mid left between u after
    → MovedBy (then g f) out left before u after
moved_then g f out mid left before between after w u m n =
    record {
      pile = n.pile ∙ ap (λ (p : Pile). (f p).pile) m.pile;
      laid = subst (λ (fs : List Framed). FramesLaid out left before fs after) (ap (λ (p : Pile). g.out ++ (f p).out) m.pile) (laid_more out mid left before between after g.out (f (pile_of w)).out m.laid n.laid);
    }
