-- One of two streams: steps go through what is read of it, a piece more and a step more.
-- Assumes nothing.
use mathlib.Core.Path.{◌≡◌, refl, sym, ap, ◌∙◌, subst}
use mathlib.Core.Bool.{Bool, true, false, true≢false}
use mathlib.Core.List.{List, [], ◌∷◌, ◌++◌, append_assoc, append-nil}
use Prim.Native.Nat.{ℕ, ◌≤◌}
use native.Mathlib.Omega.{arith}
use lib.ListN.{length, drop, length-append}
use lib.Seq.{drop-append-le}
use Rattle.intake.proofs.Hearing.{dibits_append}
use Rattle.merge_recorder_rules.specs.Calls.{dibits_in, MergeCalled, Next, MergeThrough, merge_rest}
use Rattle.recorder_rules.specs.Steps.{dibits_of}
use Rattle.sync_rules.specs.State.{Input}
use Rattle.task_merge.specs.Heard.{Side, primary_side, alternate_side, OneThrough, StillOpen, Followed}

-- a step that was not told of an end uses no more than it is lent
abbrev pub Within : Side → MergeCalled → Type 0
Within side c = (side c).over ≡ false → c.answer.used ≤ length (dibits_in (side c))

abbrev pub AllWithin : Side → List MergeCalled → Type 0
AllWithin side [] = Unit {0}
AllWithin side (c ∷ cs) = Within side c × AllWithin side cs

module _ (side : Side) where
  -- ---- a piece more

  used_few : (xs later : List Input) (c : MergeCalled) → xs ≡ dibits_in (side c) ++ later → c.answer.used ≤ length (dibits_in (side c)) → c.answer.used ≤ length xs
  used_few xs later c e h = omega (arith, ap length e, length-append (dibits_in (side c)) later)

  next_wide : (xs es : List Input) (c : MergeCalled) → (side c).over ≡ false → Next xs (side c) → Next (xs ++ es) (side c)
  next_wide xs es c o n =
      record {
        later = n.later ++ es;
        front = ap (λ (l : List Input). l ++ es) n.front ∙ append_assoc (dibits_in (side c)) n.later es;
        last = λ e. absurd (true≢false (sym e ∙ o));
      }

  through_wide : (cs : List MergeCalled) (xs es : List Input) → StillOpen side cs → AllWithin side cs → OneThrough side xs cs → OneThrough side (xs ++ es) cs
  unfolding StillOpen OneThrough
  through_wide [] xs es o w t = refl
  through_wide (c ∷ cs) xs es o w t =
      let few = used_few xs t.0.later c t.0.front (w.0 o.0) in
      (next_wide xs es c o.0 t.0, subst (λ (l : List Input). OneThrough side l cs) (sym (drop-append-le c.answer.used xs es few)) (through_wide cs (drop c.answer.used xs) es o.1 w.1 t.1))

  rest_wide : (cs : List MergeCalled) (xs es : List Input) → StillOpen side cs → AllWithin side cs → OneThrough side xs cs → merge_rest (xs ++ es) cs ≡ merge_rest xs cs ++ es
  unfolding StillOpen OneThrough merge_rest
  rest_wide [] xs es o w t = refl
  rest_wide (c ∷ cs) xs es o w t =
      let few = used_few xs t.0.later c t.0.front (w.0 o.0) in
      ap (λ (l : List Input). merge_rest l cs) (drop-append-le c.answer.used xs es few) ∙ rest_wide cs (drop c.answer.used xs) es o.1 w.1 t.1

  pub followed_read : (cs : List MergeCalled) (rest : List Input) (piece : List ℕ) (goes : Bool) → AllWithin side cs → rest ≡ [] → Followed side cs rest true → Followed side cs (dibits_of piece 0) goes
  followed_read cs rest piece goes w e f =
      let still = f.still refl in
      let xs = dibits_of f.bytes 0 in
      let longer = dibits_append f.bytes piece in
      record {
        bytes = f.bytes ++ piece;
        through = subst (λ (l : List Input). OneThrough side l cs) (sym longer) (through_wide cs xs (dibits_of piece 0) still w f.through);
        left = ap (λ (l : List Input). merge_rest l cs) longer ∙ rest_wide cs xs (dibits_of piece 0) still w f.through ∙ ap (λ (l : List Input). l ++ dibits_of piece 0) (f.left ∙ e);
        still = λ o. still;
      }

  -- ---- a step more

  through_snoc : (cs : List MergeCalled) (xs : List Input) (c : MergeCalled) → OneThrough side xs cs → Next (merge_rest xs cs) (side c) → OneThrough side xs (cs ++ (c ∷ []))
  unfolding OneThrough merge_rest
  through_snoc [] xs c t n = (n, refl)
  through_snoc (b ∷ cs) xs c t n = (t.0, through_snoc cs (drop b.answer.used xs) c t.1 n)

  rest_snoc : (cs : List MergeCalled) (xs : List Input) (c : MergeCalled) → merge_rest xs (cs ++ (c ∷ [])) ≡ drop c.answer.used (merge_rest xs cs)
  unfolding merge_rest
  rest_snoc [] xs c = refl
  rest_snoc (b ∷ cs) xs c = rest_snoc cs (drop b.answer.used xs) c

  still_snoc : (cs : List MergeCalled) (c : MergeCalled) → StillOpen side cs → (side c).over ≡ false → StillOpen side (cs ++ (c ∷ []))
  unfolding StillOpen
  still_snoc [] c s o = (o, tt)
  still_snoc (b ∷ cs) c s o = (s.0, still_snoc cs c s.1 o)

  pub followed_step : (cs : List MergeCalled) (rest : List Input) (goes next : Bool) (c : MergeCalled) → dibits_in (side c) ≡ rest → (next ≡ true → (goes ≡ true) × ((side c).over ≡ false)) → Followed side cs rest goes
      → Followed side (cs ++ (c ∷ [])) (drop c.answer.used rest) next
  followed_step cs rest goes next c e o f =
      record {
        bytes = f.bytes;
        through = through_snoc cs (dibits_of f.bytes 0) c f.through (record { later = []; front = f.left ∙ sym e ∙ sym (append-nil (dibits_in (side c))); last = λ l. refl });
        left = rest_snoc cs (dibits_of f.bytes 0) c ∙ ap (drop c.answer.used) f.left;
        still = λ n. still_snoc cs c (f.still (o n).0) (o n).1;
      }

-- both ways together
pub both_through : (cs : List MergeCalled) (xs ys : List Input) → OneThrough primary_side xs cs → OneThrough alternate_side ys cs → MergeThrough xs ys cs
unfolding OneThrough MergeThrough
both_through [] xs ys t s = refl
both_through (c ∷ cs) xs ys t s = (t.0, s.0, both_through cs (drop c.answer.used xs) (drop c.answer.used ys) t.1 s.1)
