-- What a step has come to after so many turns, and one round of its loop.
-- Assumes nothing.
use Rattle.std.proofs.Common.{Option, Some, Ok}
use mathlib.Core.Path.{◌≡◌, refl, sym, ap, ap₂, subst, ◌∙◌}
use mathlib.Core.Logic.{◌⊎◌, inl, inr, ⊎_elim}
use mathlib.Core.Bool.{Bool, true, false}
use mathlib.Core.List.{List, [], ◌∷◌}
use Prim.Native.Nat.{ℕ, ◌+◌, ◌-◌, ◌*◌, ◌≤◌, ◌<◌, min}
use native.Mathlib.Omega.{arith}
use borrow.Author.Tests.{ltb-true, ltb-false}
use lib.Dec.{ltb}
use lib.ListN.{length, take, drop}
use Rattle.bits.proofs.Conds.{cond_ge}
use Rattle.journal_rules.specs.Gaps.{Framed}
use Rattle.merge_recorder_rules.specs.Steps.{both_of, Paired, merge_need, most_turns, available_of, MergeSteppedBy}
use Rattle.merge_recorder_rules.specs.declared.MergeRecorder.{MergeRecorder}
use Rattle.merge_recorder_rules.specs.declared.MergeStepped.{MergeStepped}
use Rattle.merge_recorder_rules.proofs.Walking.{made_idle, walk_on}
use Rattle.merge_recorder_turns.specs.Brought.{BroughtBy, NothingToDo, made_by}
use Rattle.merge_recorder_turns.specs.declared.Brought.{Brought}
use Rattle.merge_stretches.specs.Statements.{Stretch}
use Rattle.merge_stretches.specs.Stretches.{settled_of, stretch_of}
use Rattle.merge_stretches.proofs.Calming.{stretch_rule_lem}
use Rattle.merger.specs.declared.Merger.{Merger}
use Rattle.merging_rules.specs.Accounts.{told_of, most_told, Idle}
use Rattle.merging_rules.specs.Piles.{Pile, Handed, then, offered_all, all_released}
use Rattle.merging_rules.specs.Turns.{Both, fed, made_of, walk}
use Rattle.merging_rules.specs.Works.{pile_of, bytes_of, FramesLaid, MovedBy, ValidWork}
use Rattle.merging_rules.specs.declared.Work.{Work}
use Rattle.merging_rules.proofs.Handing.{laid_nothing, laid_more}
use Rattle.merging_rules.proofs.Idling.{idle_at_clocks}
use Rattle.recorder_rules.specs.Makings.{Trying}
use Rattle.recorder_rules.specs.Steps.{dibits_of, laid_none}
use Rattle.recorder_rules.specs.declared.Laid.{Laid}
use Rattle.recorder_rules.proofs.Feeding.{packed_dibits}
use Rattle.recorder_rules.proofs.Rising.{Dibits}
use Rattle.sync.specs.declared.Synchroniser.{Synchroniser}
use Rattle.sync_call_rules.specs.Calls.{Got, shown_as}
use Rattle.sync_inputs.proofs.Inputs.{length_packed}
use Rattle.sync_numbers.specs.View.{view_of}
use Rattle.sync_numbers.specs.declared.numbers.Numbers.{Numbers}
use Rattle.sync_rules.specs.State.{State, Input}

-- ---- how many turns there are

least_available : (over ended : Bool) (m a b : ℕ) → available_of over ended (min m a) (min m b) ≡ min m (available_of over ended a b)
least_available true true m a b = omega arith
least_available true false m a b = refl
least_available false true m a b = refl
least_available false false m a b = omega arith

pub all_there : (primary alternate : List ℕ) (from start p q all : ℕ) (over ended : Bool) → p ≡ min most_turns (4 * length primary - from) → q ≡ min most_turns (4 * length alternate - start) → all ≡ available_of over ended p q
    → all ≡ min most_turns (available_of over ended (length (dibits_of primary from)) (length (dibits_of alternate start)))
all_there primary alternate from start p q all over ended e f g =
    g ∙ ap₂ (λ (x y : ℕ). available_of over ended x y) (e ∙ ap (min most_turns) (sym (length_packed primary from))) (f ∙ ap (min most_turns) (sym (length_packed alternate start)))
    ∙ least_available over ended most_turns (length (dibits_of primary from)) (length (dibits_of alternate start))

-- a stretch does not pass the available turns
both_there : (over ended : Bool) (a b i n : ℕ) → i + n ≤ a → i + n ≤ b → i + n ≤ available_of over ended a b
both_there true true a b i n h k = omega arith
both_there true false a b i n h k = k
both_there false true a b i n h k = h
both_there false false a b i n h k = omega arith

pub within_all : (over ended : Bool) (m m' : State) (p q i n : ℕ) → Stretch m m' (p - i) (q - i) n → i < available_of over ended p q → i + n ≤ available_of over ended p q
within_all over ended m m' p q i n s h =
    ⊎_elim (λ e. omega (arith, e)) (λ c. both_there over ended p q i n (fits p s.some c.2) (fits q s.some c.3)) s.calm
  where
    fits : (a : ℕ) → 1 ≤ n → n ≤ a - i → i + n ≤ a
    fits a h k = omega arith

-- what is fed at once, of the dibits that there are
pub stretched : (primary alternate : List ℕ) (from start : ℕ) (m m' : State) (i p q n : ℕ) → p ≡ min most_turns (4 * length primary - from) → q ≡ min most_turns (4 * length alternate - start)
    → Stretch m m' (p - i) (q - i) n → Stretch m m' (length (dibits_of primary from) - i) (length (dibits_of alternate start) - i) n
stretched primary alternate from start m m' i p q n e f s =
    record {
      some = s.some;
      calm = ⊎_elim (λ h. inl h) (λ c. inr (c.0, c.1, more (length (dibits_of primary from)) p (e ∙ ap (min most_turns) (sym (length_packed primary from))) c.2, more (length (dibits_of alternate start)) q (f ∙ ap (min most_turns) (sym (length_packed alternate start))) c.3)) s.calm;
    }
  where
    more : (l z : ℕ) → z ≡ min most_turns l → n ≤ z - i → n ≤ l - i
    more l z h k = omega arith

pub stretch_as : (m m' : State) (p q i n a b : ℕ) → a ≡ p - i → b ≡ q - i → n ≡ stretch_of m m' a b → Stretch m m' (p - i) (q - i) n
stretch_as m m' p q i n a b e f g = subst (λ (z : ℕ). Stretch m m' (p - i) z n) f (subst (λ (z : ℕ). Stretch m m' z b n) e (subst (λ (z : ℕ). Stretch m m' a b z) (sym g) (stretch_rule_lem m m' a b)))

-- ---- what is made of what the streams brought

no_length : {A : Type 0} (l : List A) → length l ≡ 0 → l ≡ []
no_length [] e = refl
no_length (x ∷ l) e = absurd (omega arith)

module _ (try : Trying) (xs ys : List Input) (m m' : State) (bits reliabilities one others their two : List ℕ) (a b : Brought) (T : BroughtBy xs m bits reliabilities one a) (U : BroughtBy ys m' others their two b) where
  made_same : (p : Pile) → made_by try a one b two p ≡ made_of try (fed xs m) (fed ys m') p
  made_same p =
      ap₂ (λ (gs hs : List Got). then (then (offered_all try 0 gs p) (offered_all try 1 hs)) (all_released a.settled b.settled false)) T.frames U.frames
      ∙ ap₂ (λ (c d : Option ℕ). then (then (offered_all try 0 (shown_as (fed xs m).sent) p) (offered_all try 1 (shown_as (fed ys m').sent))) (all_released c d false)) T.settled U.settled

  pub busy_moved : (w v : Work) (out left : List ℕ) (before after : Laid) → MovedBy (made_by try a one b two (pile_of w)) out left before v after → MovedBy (made_of try (fed xs m) (fed ys m') (pile_of w)) out left before v after
  busy_moved w v out left before after n = subst (λ (h : Handed). MovedBy h out left before v after) (made_same (pile_of w)) n

  settled_as : (w : Merger) → Idle a.settled b.settled false w → Idle (settled_of (fed xs m)) (settled_of (fed ys m')) false w
  settled_as w o = subst (λ (z : Option ℕ). Idle (settled_of (fed xs m)) z false w) U.settled (subst (λ (z : Option ℕ). Idle z b.settled false w) T.settled o)

  pub calm_moved : (w : Work) (out : List ℕ) (lay : Laid) → NothingToDo a b w.merger → MovedBy (made_of try (fed xs m) (fed ys m') (pile_of w)) out out lay w lay
  calm_moved w out lay n =
      let s = made_idle try (fed xs m) (fed ys m') (pile_of w) (no_length (fed xs m).sent (sym T.count ∙ n.0)) (no_length (fed ys m').sent (sym U.count ∙ n.1)) (settled_as w.merger n.2) in
      record { pile = sym s.pile; laid = subst (λ (fs : List Framed). FramesLaid out out lay fs lay) (sym s.out) (laid_nothing out lay) }

  -- nothing is ready at the clocks
  clocks_idle : (v : Work) → Idle a.settled b.settled false v.merger → Idle (Some a.numbers.figures.clock) (Some b.numbers.figures.clock) false v.merger
  clocks_idle v o =
      let c : (fed xs m).next.figures.clock ≡ a.numbers.figures.clock = sym (ap (λ (z : State). z.figures.clock) T.next) in
      let d : (fed ys m').next.figures.clock ≡ b.numbers.figures.clock = sym (ap (λ (z : State). z.figures.clock) U.next) in
      subst (λ (z : ℕ). Idle (Some a.numbers.figures.clock) (Some z) false v.merger) d (subst (λ (z : ℕ). Idle (Some z) (Some (fed ys m').next.figures.clock) false v.merger) c (idle_at_clocks _ _ _ _ _ _ v.merger (settled_as v.merger o)))

-- frames told are few
pub told_few : (bits reliabilities : List ℕ) (k : Numbers) (others their : List ℕ) (l : Numbers) (w : Work) → Paired bits reliabilities k others their l w → told_of w.answered + 6 < most_told
told_few bits reliabilities k others their l w p = omega (arith, p.told, p.first.steady.sound.taken_few, p.second.steady.sound.taken_few)

-- ---- after so many turns
module _ (try : Trying) (xs ys : List Input) (d : Dibits xs) (e : Dibits ys) (b₀ : Both) (out₀ : List ℕ) (lay₀ : Laid) where
  abbrev standing : List ℕ → List ℕ → Numbers → List ℕ → List ℕ → Numbers → Work → Both
  standing bits reliabilities k others their l w = record { first = view_of bits reliabilities k; second = view_of others their l; pile = pile_of w }

  pub record Stood (i : ℕ) (bits reliabilities : List ℕ) (k : Numbers) (others their : List ℕ) (l : Numbers) (w : Work) (out : List ℕ) (lay : Laid) : Type 0 where
    pub paired : Paired bits reliabilities k others their l w
    pub both : (walk i try xs ys b₀).both ≡ standing bits reliabilities k others their l w
    pub laid : FramesLaid out₀ out lay₀ (walk i try xs ys b₀).out lay
    pub fits : lay.size ≤ length out₀
    pub before : (j : ℕ) → j < i → length (bytes_of lay₀.earlier (walk j try xs ys b₀).out) + merge_need ≤ length out₀

  pub stood_start : (bits reliabilities : List ℕ) (k : Numbers) (others their : List ℕ) (l : Numbers) (w : Work) → b₀ ≡ standing bits reliabilities k others their l w → Paired bits reliabilities k others their l w → lay₀.size ≡ 0
      → Stood 0 bits reliabilities k others their l w out₀ lay₀
  unfolding walk
  stood_start bits reliabilities k others their l w h p z = record { paired = p; both = h; laid = laid_nothing out₀ lay₀; fits = omega arith; before = λ j i. absurd (omega arith) }

  module _ (zero : lay₀.size ≡ 0) (i : ℕ) (bits reliabilities : List ℕ) (k : Numbers) (others their : List ℕ) (l : Numbers) (w : Work) (out : List ℕ) (lay : Laid) (S : Stood i bits reliabilities k others their l w out lay) (room : lay.size + merge_need ≤ length out₀)
      (n : ℕ) (s : Stretch (view_of bits reliabilities k) (view_of others their l) (length xs - i) (length ys - i) n) (bits' reliabilities' one others' their' two : List ℕ) (a b : Brought)
      (T : BroughtBy (take n (drop i xs)) (view_of bits reliabilities k) bits' reliabilities' one a) (U : BroughtBy (take n (drop i ys)) (view_of others their l) others' their' two b) where
    round : (v : Work) (out' : List ℕ) (lay' : Laid) → MovedBy (made_of try (fed (take n (drop i xs)) (view_of bits reliabilities k)) (fed (take n (drop i ys)) (view_of others their l)) (pile_of w)) out out' lay v lay'
        → ValidWork v → told_of v.answered ≡ told_of w.answered + (a.count + b.count) → Idle a.settled b.settled false v.merger → lay'.size ≤ length out₀
        → Stood (i + n) bits' reliabilities' a.numbers others' their' b.numbers v out' lay'
    round v out' lay' m valid told idle fits =
        let at = standing bits reliabilities k others their l w in
        let fs = (walk i try xs ys b₀).out in
        let r = walk_on try xs ys b₀ d e n i at fs (record { both = S.both; out = refl }) S.paired.idle s in
        record {
          paired = record {
            first = T.sound;
            second = U.sound;
            work = valid;
            told = omega (arith, told, S.paired.told, T.taken, U.taken);
            idle = clocks_idle try (take n (drop i xs)) (take n (drop i ys)) _ _ bits' reliabilities' one others' their' two a b T U v idle;
          };
          both = r.there.both ∙ ap₂ (λ (x y : State). record { first = x; second = y; pile = (made_of try (fed (take n (drop i xs)) (view_of bits reliabilities k)) (fed (take n (drop i ys)) (view_of others their l)) (pile_of w)).pile }) (sym T.next) (sym U.next) ∙ ap (λ (p : Pile). record { first = view_of bits' reliabilities' a.numbers; second = view_of others' their' b.numbers; pile = p }) (sym m.pile);
          laid = subst (λ (gs : List Framed). FramesLaid out₀ out' lay₀ gs lay') (sym r.there.out) (laid_more out₀ out out' lay₀ lay lay' fs _ S.laid m.laid);
          fits = fits;
          before = λ j h. by j h (ltb j i) refl (r.before j);
        }
      where
        by : (j : ℕ) → j < i + n → (t : Bool) → ltb j i ≡ t → (i ≤ j → j < i + n → (walk j try xs ys b₀).out ≡ (walk i try xs ys b₀).out) → length (bytes_of lay₀.earlier (walk j try xs ys b₀).out) + merge_need ≤ length out₀
        by j h true t f = S.before j (ltb-true j i t)
        by j h false t f = omega (arith, ap (λ (gs : List Framed). length (bytes_of lay₀.earlier gs)) (f (ltb-false j i t) h), S.laid.size)

    -- something came, or was ready
    pub round_busy : (v : Work) (out' : List ℕ) (lay' : Laid) → MovedBy (made_by try a one b two (pile_of w)) out out' lay v lay'
        → ValidWork v → told_of v.answered ≡ told_of w.answered + (a.count + b.count) → Idle a.settled b.settled false v.merger → lay'.size ≤ length out₀
        → Stood (i + n) bits' reliabilities' a.numbers others' their' b.numbers v out' lay'
    round_busy v out' lay' m = round v out' lay' (busy_moved try (take n (drop i xs)) (take n (drop i ys)) _ _ bits' reliabilities' one others' their' two a b T U w v out out' lay lay' m)

    pub round_calm : NothingToDo a b w.merger → Stood (i + n) bits' reliabilities' a.numbers others' their' b.numbers w out lay
    round_calm z =
        round w out lay (calm_moved try (take n (drop i xs)) (take n (drop i ys)) _ _ bits' reliabilities' one others' their' two a b T U w out lay z) S.paired.work (omega (arith, z.0, z.1)) z.2 S.fits

-- ---- the answer
pub stepped_by : (try : Trying) (primary alternate : List ℕ) (from start : ℕ) (over ended : Bool) (r : MergeRecorder) (out left : List ℕ) → merge_need ≤ length out → (i all : ℕ) (bits reliabilities : List ℕ) (k : Numbers) (others their : List ℕ) (l : Numbers) (w : Work) (lay₀ lay : Laid) → lay₀ ≡ laid_none r.earlier
    → Stood try (dibits_of primary from) (dibits_of alternate start) (packed_dibits primary from) (packed_dibits alternate start) (both_of r) out lay₀ i bits reliabilities k others their l w left lay
    → all ≡ min most_turns (available_of over ended (length (dibits_of primary from)) (length (dibits_of alternate start))) → i ≤ all → (all ≤ i) ⊎ (length out < lay.size + merge_need)
    → (x y : Synchroniser) → x ≡ record { bits = bits; reliabilities = reliabilities; numbers = k } → y ≡ record { bits = others; reliabilities = their; numbers = l }
    → (s : MergeStepped) → s ≡ record { used = i; size = lay.size; answer = (Ok tt); next = record { first = x; second = y; work = w; earlier = lay.earlier } }
    → MergeSteppedBy try out left (dibits_of primary from) over (dibits_of alternate start) ended r s × Paired s.next.first.bits s.next.first.reliabilities s.next.first.numbers s.next.second.bits s.next.second.reliabilities s.next.second.numbers s.next.work
stepped_by try primary alternate from start over ended r out left large i all bits reliabilities k others their l w lay₀ lay e₀ S₀ there few stops x y ex ey s es =
    subst (λ (z : MergeStepped). MergeSteppedBy try out left xs over ys ended r z × Paired z.next.first.bits z.next.first.reliabilities z.next.first.numbers z.next.second.bits z.next.second.reliabilities z.next.second.numbers z.next.work)
    (sym (es ∙ ap₂ (λ (g h : Synchroniser). record { used = i; size = lay.size; answer = (Ok tt); next = record { first = g; second = h; work = w; earlier = lay.earlier } }) ex ey)) (
      record {
        answer = sym (cond_ge (length out) merge_need _ _ large);
        few = omega (arith, few, there);
        before = S.before;
        stops = ⊎_elim (λ h. inl (omega (arith, h, few, there))) (λ h. inr h) stops;
        both = sym S.both;
        earlier = S.laid.earlier;
        size = S.laid.size ∙ omega arith;
        fits = S.fits;
        stored = S.laid.stored;
      },
      S.paired,
    )
  where
    xs : List Input
    xs = dibits_of primary from

    ys : List Input
    ys = dibits_of alternate start

    S : Stood try xs ys (packed_dibits primary from) (packed_dibits alternate start) (both_of r) out (laid_none r.earlier) i bits reliabilities k others their l w left lay
    S = subst (λ (z : Laid). Stood try xs ys (packed_dibits primary from) (packed_dibits alternate start) (both_of r) out z i bits reliabilities k others their l w left lay) e₀ S₀
