-- Histories of steps over two streams, cut anywhere and apart from each other.
-- Assumes nothing.
use Rattle.std.proofs.Common.{Option, None}
use mathlib.Core.Path.{◌≡◌, refl, sym, ap, ap₂, ◌∙◌}
use mathlib.Core.Logic.{◌⊎◌, inl, inr, ⊎_elim}
use mathlib.Core.Bool.{Bool, true, false}
use mathlib.Core.List.{List, [], ◌∷◌, ◌++◌, append-nil}
use Prim.Native.Nat.{ℕ, ◌+◌, ◌-◌, ◌≤◌, ◌<◌, max}
use native.Mathlib.Omega.{arith}
use lib.ListN.{length, take, drop, length-append, length-drop}
use lib.Seq.{sets, sets-eq, take_at, take-append-le, drop-append-le, drop-drop}
use Rattle.bits.proofs.Conds.{cond_ge}
use Rattle.journal_rules.specs.Gaps.{Framed}
use Rattle.merging_rules.specs.Piles.{Handed}
use Rattle.merging_rules.specs.Turns.{Both, Turned, walk, flushed, walked}
use Rattle.merging_rules.specs.Works.{pile_of, last_written, bytes_of}
use Rattle.merging_rules.proofs.Handing.{bytes_none, bytes_more, last_more}
use Rattle.recorder_rules.specs.Makings.{Trying}
use Rattle.sync_rules.specs.State.{Input}
use Rattle.merge_recorder_rules.specs.Calls.{Lent, dibits_in, MergeCalled, MergeHistory, merge_state, merge_handed, Next, MergeThrough, merge_rest}
use Rattle.merge_recorder_rules.specs.Statements.{merge_records}
use Rattle.merge_recorder_rules.specs.Steps.{both_of, merge_need, available_of, flushed_in}
use Rattle.merge_recorder_rules.specs.declared.MergeRecorder.{MergeRecorder}
use Rattle.merge_recorder_rules.proofs.Walking.{walk_front, walk_add}

-- the front of memory into which bytes were laid
take_sets : (out B : List ℕ) (n : ℕ) → length B ≡ n → n ≤ length out → take n (sets out 0 B) ≡ B
take_sets out B n e h = ap (take n) (sets-eq B out 0 (omega arith)) ∙ take_at B (drop (0 + length B) out) n e

-- ---- a step is lent the front of what is left

-- a dibit is there, or nothing comes after
first_there : (o e : Bool) (a b j : ℕ) → j < available_of o e a b → (j < a) ⊎ (o ≡ true)
first_there true e a b j h = inr refl
first_there false true a b j h = inl h
first_there false false a b j h = inl (omega arith)

second_there : (o e : Bool) (a b j : ℕ) → j < available_of o e a b → (j < b) ⊎ (e ≡ true)
second_there o true a b j h = inr refl
second_there true false a b j h = inl h
second_there false false a b j h = inl (omega arith)

available_few : (o e : Bool) (a b : ℕ) → available_of o e a b ≤ max a b
available_few true true a b = omega arith
available_few true false a b = omega arith
available_few false true a b = omega arith
available_few false false a b = omega arith

take_one : (j : ℕ) (ds later : List Input) → j < length ds → take 1 (drop j (ds ++ later)) ≡ take 1 (drop j ds)
take_one j ds later h = ap (take 1) (drop-append-le j ds later (omega arith)) ∙ take-append-le 1 (drop j ds) later (omega (arith, length-drop j ds))

front : (xs : List Input) (l : Lent) → Next xs l → (j : ℕ) → (j < length (dibits_in l)) ⊎ (l.over ≡ true) → take 1 (drop j xs) ≡ take 1 (drop j (dibits_in l))
front xs l n j t =
    ap (λ (z : List Input). take 1 (drop j z)) n.front
    ∙ ⊎_elim (λ h. take_one j (dibits_in l) n.later h) (λ h. ap (λ (z : List Input). take 1 (drop j z)) (ap (λ (z : List Input). dibits_in l ++ z) (n.last h) ∙ append-nil (dibits_in l))) t

lent_few : (xs : List Input) (l : Lent) → Next xs l → length (dibits_in l) ≤ length xs
lent_few xs l n = omega (arith, ap length n.front, length-append (dibits_in l) n.later)

-- ---- any history

-- the steps cs went n turns on from the recorder r
record Gone (try : Trying) (r : MergeRecorder) (xs ys : List Input) (cs : List MergeCalled) : Type 0 where
  turns : ℕ
  both : both_of (merge_state r cs) ≡ (walk turns try xs ys (both_of r)).both
  earlier : (merge_state r cs).earlier ≡ last_written r.earlier (walk turns try xs ys (both_of r)).out
  bytes : merge_handed cs ≡ bytes_of r.earlier (walk turns try xs ys (both_of r)).out
  rest : merge_rest xs cs ≡ drop turns xs
  other : merge_rest ys cs ≡ drop turns ys
  few : turns ≤ max (length xs) (length ys)

further : (a b n u : ℕ) → n ≤ max a b → u ≤ max (a - n) (b - n) → n + u ≤ max a b
further a b n u h k = omega arith

gone : (try : Trying) (r : MergeRecorder) (xs ys : List Input) (cs : List MergeCalled) → MergeHistory try r cs → MergeThrough xs ys cs → Gone try r xs ys cs
unfolding MergeHistory MergeThrough merge_state merge_handed merge_rest walk last_written
gone try r xs ys [] h t = record { turns = 0; both = refl; earlier = refl; bytes = sym (bytes_none r.earlier); rest = refl; other = refl; few = omega arith }
gone try r xs ys (c ∷ cs) h t =
    let m = h.0 in
    let n = c.answer.used in
    let few : n ≤ available_of c.primary.over c.alternate.over (length (dibits_in c.primary)) (length (dibits_in c.alternate)) = m.few in
    let same : walk n try xs ys (both_of r) ≡ walk n try (dibits_in c.primary) (dibits_in c.alternate) (both_of r)
    = walk_front n try xs ys (dibits_in c.primary) (dibits_in c.alternate) (both_of r)
    (λ j i. front xs c.primary t.0 j (first_there c.primary.over c.alternate.over (length (dibits_in c.primary)) (length (dibits_in c.alternate)) j (omega arith)))
    (λ j i. front ys c.alternate t.1 j (second_there c.primary.over c.alternate.over (length (dibits_in c.primary)) (length (dibits_in c.alternate)) j (omega arith))) in
    let W = walk n try xs ys (both_of r) in
    let stood : both_of c.answer.next ≡ W.both = m.both ∙ sym (ap (λ (z : Turned). z.both) same) in
    let out : (walk n try (dibits_in c.primary) (dibits_in c.alternate) (both_of r)).out ≡ W.out = sym (ap (λ (z : Turned). z.out) same) in
    let g = gone try c.answer.next (drop n xs) (drop n ys) cs h.1 t.2 in
    let u = g.turns in
    let a = walk_add try xs ys (both_of r) n u in
    let then : Turned = walk u try (drop n xs) (drop n ys) W.both in
    let moved : walk u try (drop n xs) (drop n ys) (both_of c.answer.next) ≡ then = ap (walk u try (drop n xs) (drop n ys)) stood in
    let wrote : c.answer.next.earlier ≡ last_written r.earlier W.out = m.earlier ∙ ap (last_written r.earlier) out in
    let B = bytes_of r.earlier W.out in
    let size : c.answer.size ≡ length B = m.size ∙ ap (λ (fs : List Framed). length (bytes_of r.earlier fs)) out in
    let here : take c.answer.size c.left ≡ B = ap (take c.answer.size) (m.stored ∙ ap (λ (fs : List Framed). sets c.out 0 (bytes_of r.earlier fs)) out) ∙ take_sets c.out B c.answer.size (sym size) m.fits in
    record {
      turns = n + u;
      both = g.both ∙ ap (λ (z : Turned). z.both) moved ∙ sym a.both;
      earlier = g.earlier ∙ ap₂ (λ (e : Option ℕ) (z : Turned). last_written e z.out) wrote moved ∙ sym (ap (last_written r.earlier) a.out ∙ last_more r.earlier W.out then.out);
      bytes = ap₂ (λ (x y : List ℕ). x ++ y) here (g.bytes ∙ ap₂ (λ (e : Option ℕ) (z : Turned). bytes_of e z.out) wrote moved) ∙ sym (ap (bytes_of r.earlier) a.out ∙ bytes_more r.earlier W.out then.out);
      rest = g.rest ∙ drop-drop u n xs;
      other = g.other ∙ drop-drop u n ys;
      few = further (length xs) (length ys) n u
          (omega (arith, few, available_few c.primary.over c.alternate.over (length (dibits_in c.primary)) (length (dibits_in c.alternate)), lent_few xs c.primary t.0, lent_few ys c.alternate t.1))
          (omega (arith, g.few, length-drop n xs, length-drop n ys));
    }

-- ---- two whole streams

all_turns : (xs ys : List Input) (n : ℕ) → n ≤ max (length xs) (length ys) → drop n xs ≡ [] → drop n ys ≡ [] → n ≡ max (length xs) (length ys)
all_turns xs ys n h e f = omega (arith, ap length e, ap length f, length-drop n xs, length-drop n ys)

pub merge_records_lem : merge_records
merge_records_lem try r fresh cs h xs ys t e f out left large a m =
    let g = gone try r xs ys cs h t in
    let n : g.turns ≡ max (length xs) (length ys) = all_turns xs ys g.turns g.few (sym g.rest ∙ e) (sym g.other ∙ f) in
    let W = walked try xs ys in
    let went : walk g.turns try xs ys (both_of r) ≡ W = ap₂ (λ (k : ℕ) (b : Both). walk k try xs ys b) n fresh.nothing in
    let s = merge_state r cs in
    let stood : both_of s ≡ W.both = g.both ∙ ap (λ (z : Turned). z.both) went in
    let pile : pile_of s.work ≡ W.both.pile = ap (λ (b : Both). b.pile) stood in
    let all : flushed_in (length out) (pile_of s.work) ≡ flushed W.both.pile = cond_ge {A = Handed} (length out) merge_need _ _ large ∙ ap flushed pile in
    let wrote : s.earlier ≡ last_written None W.out = g.earlier ∙ ap₂ (λ (d : Option ℕ) (z : Turned). last_written d z.out) fresh.earlier went in
    let F = (flushed W.both.pile).out in
    let same : bytes_of s.earlier (flushed_in (length out) (pile_of s.work)).out ≡ bytes_of (last_written None W.out) F = ap₂ (λ (d : Option ℕ) (z : Handed). bytes_of d z.out) wrote all in
    let here : take a.size left ≡ bytes_of (last_written None W.out) F
    = ap (take a.size) (m.stored ∙ ap (sets out 0) same) ∙ take_sets out (bytes_of (last_written None W.out) F) a.size (sym (m.size ∙ ap length same)) m.fits in
    record {
      bytes = ap₂ (λ (x y : List ℕ). x ++ y) (g.bytes ∙ ap₂ (λ (d : Option ℕ) (z : Turned). bytes_of d z.out) fresh.earlier went) here ∙ sym (bytes_more None W.out F);
      pile = ap (λ (b : Both). b.pile) m.both ∙ ap (λ (z : Handed). z.pile) all;
    }
