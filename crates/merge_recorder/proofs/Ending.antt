-- The start, a step that is refused, the bytes of a step from its first dibit on, and the flush.
-- Assumes nothing.
use Rattle.std.proofs.Common.{Some, None, Ok, Err}
use mathlib.Core.Path.{◌≡◌, refl, sym, ap, ap₂, subst, ◌∙◌}
use mathlib.Core.Logic.{inr}
use mathlib.Core.Bool.{Bool, true, false}
use mathlib.Core.List.{List, [], ◌∷◌}
use Prim.Native.Nat.{ℕ, zero, suc, ◌+◌, ◌-◌, ◌*◌, ◌/◌, ◌%◌, ◌≤◌, ◌<◌, min}
use native.Mathlib.Omega.{arith}
use lib.ListN.{length, take, drop, replicate, length-drop}
use lib.Seq.{sets, take_all, drop-nil}
use Rattle.bits.specs.Alls.{All}
use Rattle.bits.specs.declared.Refusal.TheVariants.{FrameRoom}
use Rattle.bits.proofs.Conds.{cond_lt, cond_ge}
use Rattle.merge_recorder_rules.specs.Statements.{MergeFresh}
use Rattle.merge_recorder_rules.specs.Steps.{Going, ValidMerge, merge_need, flushed_in, MergeSteppedBy, MergeFlushedBy}
use Rattle.merge_recorder_rules.specs.declared.MergeRecorder.{MergeRecorder}
use Rattle.merge_recorder_rules.specs.declared.MergeStepped.{MergeStepped}
use Rattle.merger.specs.States.{ValidMerger, view_of as merger_view}
use Rattle.merger.specs.declared.Merger.{Merger}
use Rattle.merger_rules.specs.Merging.{View, release_of}
use Rattle.merger_rules.specs.Scripts.{started}
use Rattle.merging_rules.specs.Accounts.{told_of, most_told, Idle}
use Rattle.merging_rules.specs.Piles.{Pile, Handed, empty_shelf, all_released}
use Rattle.merging_rules.specs.Turns.{walk, flushed}
use Rattle.merging_rules.specs.Works.{pile_of, last_written, bytes_of, MovedBy, reserved, FairSlot, StorablePosition, ValidWork}
use Rattle.merging_rules.specs.declared.Work.{Work}
use Rattle.merging_rules.proofs.Handing.{bytes_none, times_told}
use Rattle.merging_rules.proofs.Idling.{idle_empty, all_out}
use Rattle.merging_shelf.specs.Slots.{shelf_slots, empty_slot, taken_in}
use Rattle.merging_shelf.specs.declared.Shelf.{Shelf}
use Rattle.merging_shelf.specs.declared.Slot.{Slot}
use Rattle.merging_shelf.proofs.Shelving.{empty_shelved, none_used}
use Rattle.recorder_rules.specs.Makings.{Trying}
use Rattle.recorder_rules.specs.Steps.{dibits_of, laid_none}
use Rattle.recorder_rules.specs.declared.Laid.{Laid}
use Rattle.sync.specs.View.{view, ValidSynchroniser}
use Rattle.sync.specs.declared.Synchroniser.{Synchroniser}
use Rattle.sync_inputs.specs.Inputs.{hardly, unpacked}
use Rattle.sync_rules.specs.State.{State, Input, start}

-- ---- too little memory

pub step_refused : (try : Trying) (out : List ℕ) (xs : List Input) (over : Bool) (ys : List Input) (ended : Bool) (r : MergeRecorder) → length out < merge_need → (s : MergeStepped) → s ≡ record { used = 0; size = 0; answer = Err FrameRoom; next = r }
    → MergeSteppedBy try out out xs over ys ended r s
unfolding walk last_written
step_refused try out xs over ys ended r small s e =
    subst (λ (z : MergeStepped). MergeSteppedBy try out out xs over ys ended r z) (sym e)
    (record {
      answer = sym (cond_lt (length out) merge_need _ _ small);
      few = omega arith;
      before = λ j h. absurd (omega arith);
      stops = inr (omega arith);
      both = refl;
      earlier = refl;
      size = sym (ap length (bytes_none r.earlier));
      fits = omega arith;
      stored = sym (ap (sets out 0) (bytes_none r.earlier));
    })

pub flush_refused : (out : List ℕ) (r : MergeRecorder) → length out < merge_need → (s : MergeStepped) → s ≡ record { used = 0; size = 0; answer = Err FrameRoom; next = r } → MergeFlushedBy out out r s
unfolding last_written
flush_refused out r small s e =
    let p = pile_of r.work in
    let none : flushed_in (length out) p ≡ record { pile = p; out = []; deeds = [] } = cond_lt (length out) merge_need _ _ small in
    subst (λ (z : MergeStepped). MergeFlushedBy out out r z) (sym e)
    (record {
      answer = sym (cond_lt (length out) merge_need _ _ small);
      used = refl;
      both = ap (λ (h : Handed). record { first = view r.first; second = view r.second; pile = h.pile }) (sym none);
      earlier = ap (λ (h : Handed). last_written r.earlier h.out) (sym none);
      size = sym (ap (λ (h : Handed). length (bytes_of r.earlier h.out)) none ∙ ap length (bytes_none r.earlier));
      fits = omega arith;
      stored = sym (ap (λ (h : Handed). sets out 0 (bytes_of r.earlier h.out)) none ∙ ap (sets out 0) (bytes_none r.earlier));
    })

pub still_valid : (r : MergeRecorder) → ValidMerge r → (s : MergeStepped) → s ≡ record { used = 0; size = 0; answer = Err FrameRoom; next = r } → ValidMerge s.next
still_valid r v s e = subst (λ (z : MergeStepped). ValidMerge z.next) (sym e) v

-- ---- the bytes from a dibit on

-- whole bytes before a dibit
unpacked_from : (bs : List ℕ) (q k : ℕ) → drop (4 * q + k) (unpacked bs) ≡ drop k (unpacked (drop q bs))
unfolding unpacked
unpacked_from [] q k = drop-nil (4 * q + k) ∙ sym (ap (λ (l : List ℕ). drop k (unpacked l)) (drop-nil q) ∙ drop-nil k)
unpacked_from (b ∷ bs) zero k = ap (λ (n : ℕ). drop n (unpacked (b ∷ bs))) (none k)
  where
    none : (k : ℕ) → 4 * 0 + k ≡ k
    none k = omega arith
unpacked_from (b ∷ bs) (suc q) k = ap (λ (n : ℕ). drop n (unpacked (b ∷ bs))) (four q k) ∙ unpacked_from bs q k
  where
    four : (q k : ℕ) → 4 * suc q + k ≡ suc (suc (suc (suc (4 * q + k))))
    four q k = omega arith

drop_least : (bs : List ℕ) (q : ℕ) → drop (min q (length bs)) bs ≡ drop q bs
drop_least [] q = drop-nil (min q 0) ∙ sym (drop-nil q)
drop_least (b ∷ bs) zero = ap (λ (n : ℕ). drop n (b ∷ bs)) (none (length (b ∷ bs)))
  where
    none : (n : ℕ) → min 0 n ≡ 0
    none n = omega arith
drop_least (b ∷ bs) (suc q) = ap (λ (n : ℕ). drop n (b ∷ bs)) (least q (length bs)) ∙ drop_least bs q
  where
    least : (q n : ℕ) → min (suc q) (suc n) ≡ suc (min q n)
    least q n = omega arith

part_dibits : (bs : List ℕ) (from a : ℕ) → a ≡ min (from / 4) (length bs) → dibits_of (take (length bs - a) (drop a bs)) (from % 4) ≡ dibits_of bs from
part_dibits bs from a e =
    ap (λ (l : List ℕ). dibits_of l (from % 4)) (take_all (length bs - a) (drop a bs) (omega (arith, length-drop a bs)) ∙ ap (λ (n : ℕ). drop n bs) e ∙ drop_least bs (from / 4))
    ∙ ap hardly (sym (unpacked_from bs (from / 4) (from % 4)) ∙ ap (λ (n : ℕ). drop n (unpacked bs)) (whole from))
  where
    whole : (n : ℕ) → 4 * (n / 4) + n % 4 ≡ n
    whole n = omega arith

pub stepped_from : (try : Trying) (out left primary alternate : List ℕ) (from start a b : ℕ) (over ended : Bool) (r : MergeRecorder) (s : MergeStepped) → a ≡ min (from / 4) (length primary) → b ≡ min (start / 4) (length alternate)
    → MergeSteppedBy try out left (dibits_of (take (length primary - a) (drop a primary)) (from % 4)) over (dibits_of (take (length alternate - b) (drop b alternate)) (start % 4)) ended r s
    → MergeSteppedBy try out left (dibits_of primary from) over (dibits_of alternate start) ended r s
stepped_from try out left primary alternate from start a b over ended r s e f m =
    subst (λ (ys : List Input). MergeSteppedBy try out left (dibits_of primary from) over ys ended r s) (part_dibits alternate start b f)
    (subst (λ (xs : List Input). MergeSteppedBy try out left xs over (dibits_of (take (length alternate - b) (drop b alternate)) (start % 4)) ended r s) (part_dibits primary from a e) m)

-- ---- the flush

module _ (r : MergeRecorder) (v : ValidMerge r) (out left : List ℕ) (large : merge_need ≤ length out) (none lay : Laid) (e : none ≡ laid_none r.earlier) (w : Work) (m : MovedBy (all_released None None true (pile_of r.work)) out left none w lay) (valid : ValidWork w) (few : reserved w lay ≤ reserved r.work none)
    (idle : Idle None None true w.merger) (s : MergeStepped) (es : s ≡ record { used = 0; size = lay.size; answer = (Ok tt); next = record { first = r.first; second = r.second; work = w; earlier = lay.earlier } }) where
  moved : MovedBy (all_released None None true (pile_of r.work)) out left (laid_none r.earlier) w lay
  moved = subst (λ (z : Laid). MovedBy (all_released None None true (pile_of r.work)) out left z w lay) e m

  pub flushed_by : MergeFlushedBy out left r s
  flushed_by =
      let p = pile_of r.work in
      let all : flushed p ≡ flushed_in (length out) p = sym (cond_ge (length out) merge_need _ _ large) in
      subst (λ (z : MergeStepped). MergeFlushedBy out left r z) (sym es)
      (record {
        answer = sym (cond_ge (length out) merge_need _ _ large);
        used = refl;
        both = ap (λ (z : Pile). record { first = view r.first; second = view r.second; pile = z }) (moved.pile ∙ ap (λ (h : Handed). h.pile) all);
        earlier = moved.laid.earlier ∙ ap (λ (h : Handed). last_written r.earlier h.out) all;
        size = moved.laid.size ∙ omega arith ∙ ap (λ (h : Handed). length (bytes_of r.earlier h.out)) all;
        fits = omega (arith, few, ap (λ (z : Laid). z.size) e, v.work.accounted.valid.within);
        stored = moved.laid.stored ∙ ap (λ (h : Handed). sets out 0 (bytes_of r.earlier h.out)) all;
      })

  pub flushed_valid : ValidMerge s.next
  flushed_valid =
      subst (λ (z : MergeStepped). ValidMerge z.next) (sym es)
      (record {
        first = v.first;
        second = v.second;
        work = valid;
        told = omega (arith, v.told, ap (λ (z : Pile). told_of z.answered) moved.pile, ap told_of (times_told None None true 16 (pile_of r.work)));
        idle = idle_empty w.merger valid.accounted.valid (Some r.first.numbers.figures.clock) (Some r.second.numbers.figures.clock) false (all_out w.merger valid.accounted.valid None None idle);
      })

-- ---- the start

all_fair : (n : ℕ) (t : Slot) → FairSlot t → All FairSlot (replicate n t)
all_fair zero t f = tt
all_fair (suc n) t f = (f, all_fair n t f)

pub going_start : (s : Synchroniser) → length s.bits ≡ 1155 → length s.reliabilities ≡ 1155 → ValidSynchroniser s → Going s.bits s.reliabilities s.numbers
going_start s long as_long v = record { rings = record { long = long; as_long = as_long; binary = v.binary }; steady = v.steady; few = v.few }

module _ (x y : Synchroniser) (m : Merger) (shelf : Shelf) (ex : view x ≡ start) (ey : view y ≡ start) (em : merger_view m ≡ started) (es : shelf ≡ empty_shelf) where
  abbrev work : Work
  work = record { merger = m; shelf = shelf; answered = record { kept = 0; late = 0; double = 0; refused = 0 }; gone = record { released = 0; others = 0; passed = 0 } }

  abbrev recorder : MergeRecorder
  recorder = record { first = x; second = y; work = work; earlier = None }

  pub fresh : MergeFresh recorder
  fresh =
      record {
        nothing = ap₂ (λ (a b : State). record { first = a; second = b; pile = pile_of work }) ex ey
            ∙ ap₂ (λ (a : View) (b : Shelf). record { first = start; second = start; pile = record { merger = a; shelf = b; answered = record { kept = 0; late = 0; double = 0; refused = 0 }; gone = record { released = 0; others = 0; passed = 0 } } }) em es;
        earlier = refl;
      }

  pub fresh_valid : ValidMerger m → Going x.bits x.reliabilities x.numbers → Going y.bits y.reliabilities y.numbers → ValidMerge recorder
  fresh_valid v a b =
      let none = ap (λ (z : View). z.pending) em in
      let taken = ap taken_in es in
      let shelved = empty_shelved (taken_in shelf) (merger_view m).pending taken none in
      record {
        first = a;
        second = b;
        work = record {
          accounted = record {
            valid = v;
            slots = ap length taken;
            shelved = shelved;
            balance = omega (arith, none_used (taken_in shelf) (merger_view m).pending shelved (ap length none));
          };
          storable = subst (λ (z : View). All StorablePosition z.pending) (sym em) tt;
          fair = subst (λ (z : Shelf). All FairSlot z.slots) (sym es) (all_fair shelf_slots empty_slot (record { tried = refl; envelope = refl }));
        };
        told = omega arith;
        idle = ap (λ (z : View). (release_of (Some x.numbers.figures.clock) (Some y.numbers.figures.clock) false z).answer) em;
      }

-- frames told are few
pub few_told : (r : MergeRecorder) → ValidMerge r → told_of r.work.answered < most_told
few_told r v = omega (arith, v.told, v.first.steady.sound.taken_few, v.second.steady.sound.taken_few)
