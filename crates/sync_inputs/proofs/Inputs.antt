-- The pushes that a feed has to make, by index: what is left of them after some, and how many there are.
-- Assumes nothing.
use mathlib.Core.Path.{◌≡◌, refl, sym, ap, ◌∙◌}
use mathlib.Core.List.{List, [], ◌∷◌}
use mathlib.Core.Bool.{true}
use Prim.Native.Nat.{ℕ, zero, suc, ◌+◌, ◌-◌, ◌*◌, ◌/◌, ◌≤◌, ◌<◌, min}
use native.Mathlib.Omega.{arith}
use lib.ListN.{length, get_or, take, drop, length-take, length-drop}
use lib.Seq.{drop-drop}
use Rattle.std.specs.Prelude.{Option, Some, None}
use Rattle.sync_inputs.specs.declared.Given.{Given}
use Rattle.sync_inputs.specs.Inputs.{hardly, softly, unpacked, GivenBy, input_of}
use Rattle.sync_rules.specs.State.{Input, hard}

pub length_hardly : (ds : List ℕ) → length (hardly ds) ≡ length ds
length_hardly [] = refl
length_hardly (d ∷ ds) = ap suc (length_hardly ds)

pub hardly_next : (ds : List ℕ) (n : ℕ) → n < length ds → drop n (hardly ds) ≡ hard (get_or ds n 0) ∷ drop (suc n) (hardly ds)
hardly_next [] n h = absurd (omega arith)
hardly_next (d ∷ ds) zero h = refl
hardly_next (d ∷ ds) (suc n) h = hardly_next ds n (omega arith)

pub length_softly : (ds rs : List ℕ) → length (softly ds rs) ≡ min (length ds) (length rs / 2)
unfolding softly
length_softly [] rs = omega arith
length_softly (d ∷ ds) [] = omega arith
length_softly (d ∷ ds) (a ∷ []) = omega arith
length_softly (d ∷ ds) (a ∷ b ∷ rs) = omega (arith, length_softly ds rs)

pub softly_next : (ds rs : List ℕ) (n i j : ℕ) → i ≡ 2 * n → j ≡ 2 * n + 1 → n < length (softly ds rs)
    → drop n (softly ds rs) ≡ record { dibit = get_or ds n 0; of_first = get_or rs i 0; of_second = get_or rs j 0; soft = true } ∷ drop (suc n) (softly ds rs)
unfolding softly
softly_next [] rs n i j ei ej h = absurd (omega arith)
softly_next (d ∷ ds) [] n i j ei ej h = absurd (omega arith)
softly_next (d ∷ ds) (a ∷ []) n i j ei ej h = absurd (omega arith)
softly_next (d ∷ ds) (a ∷ b ∷ rs) zero zero (suc zero) ei ej h = refl
softly_next (d ∷ ds) (a ∷ b ∷ rs) zero zero zero ei ej h = absurd (omega arith)
softly_next (d ∷ ds) (a ∷ b ∷ rs) zero zero (suc (suc j)) ei ej h = absurd (omega arith)
softly_next (d ∷ ds) (a ∷ b ∷ rs) zero (suc i) j ei ej h = absurd (omega arith)
softly_next (d ∷ ds) (a ∷ b ∷ rs) (suc n) (suc (suc i)) (suc (suc j)) ei ej h = softly_next ds rs n i j (omega arith) (omega arith) (omega arith)
softly_next (d ∷ ds) (a ∷ b ∷ rs) (suc n) zero j ei ej h = absurd (omega arith)
softly_next (d ∷ ds) (a ∷ b ∷ rs) (suc n) (suc zero) j ei ej h = absurd (omega arith)
softly_next (d ∷ ds) (a ∷ b ∷ rs) (suc n) (suc (suc i)) zero ei ej h = absurd (omega arith)
softly_next (d ∷ ds) (a ∷ b ∷ rs) (suc n) (suc (suc i)) (suc zero) ei ej h = absurd (omega arith)

pub length_unpacked : (bs : List ℕ) → length (unpacked bs) ≡ 4 * length bs
unfolding unpacked
length_unpacked [] = refl
length_unpacked (b ∷ bs) = omega (arith, length_unpacked bs)

-- dibit n, in byte i as its dibit k
unpacked_next : (bs : List ℕ) (n i k : ℕ) → n ≡ 4 * i + k → k < 4 → i < length bs → drop n (unpacked bs) ≡ get_or (unpacked (get_or bs i 0 ∷ [])) k 0 ∷ drop (suc n) (unpacked bs)
unfolding unpacked
unpacked_next [] n i k e h l = absurd (omega arith)
unpacked_next (b ∷ bs) n zero k e h l = ap (λ (j : ℕ). drop j (unpacked (b ∷ bs))) c ∙ start k h ∙ ap (λ (j : ℕ). get_or (unpacked (b ∷ [])) k 0 ∷ drop (suc j) (unpacked (b ∷ bs))) (sym c)
  where
    c : n ≡ k
    c = omega arith

    start : (k : ℕ) → k < 4 → drop k (unpacked (b ∷ bs)) ≡ get_or (unpacked (b ∷ [])) k 0 ∷ drop (suc k) (unpacked (b ∷ bs))
    start zero h = refl
    start (suc zero) h = refl
    start (suc (suc zero)) h = refl
    start (suc (suc (suc zero))) h = refl
    start (suc (suc (suc (suc k)))) h = absurd (omega arith)
unpacked_next (b ∷ bs) (suc (suc (suc (suc n)))) (suc i) k e h l = unpacked_next bs n i k (omega arith) h (omega arith)
unpacked_next (b ∷ bs) zero (suc i) k e h l = absurd (omega arith)
unpacked_next (b ∷ bs) (suc zero) (suc i) k e h l = absurd (omega arith)
unpacked_next (b ∷ bs) (suc (suc zero)) (suc i) k e h l = absurd (omega arith)
unpacked_next (b ∷ bs) (suc (suc (suc zero))) (suc i) k e h l = absurd (omega arith)

pub drop_hardly : (ds : List ℕ) (n : ℕ) → drop n (hardly ds) ≡ hardly (drop n ds)
drop_hardly ds zero = refl
drop_hardly [] (suc n) = refl
drop_hardly (d ∷ ds) (suc n) = drop_hardly ds n

from_start : (bs : List ℕ) (start used n : ℕ) → start + used ≡ n → drop used (hardly (drop start (unpacked bs))) ≡ hardly (drop n (unpacked bs))
from_start bs start used n e = drop_hardly (drop start (unpacked bs)) used ∙ ap hardly (drop-drop used start (unpacked bs)) ∙ ap (λ (k : ℕ). hardly (drop k (unpacked bs))) e

pub packed_next : (bs : List ℕ) (start used i k : ℕ) → start + used ≡ 4 * i + k → k < 4 → i < length bs
    → drop used (hardly (drop start (unpacked bs))) ≡ hard (get_or (unpacked (get_or bs i 0 ∷ [])) k 0) ∷ drop (suc used) (hardly (drop start (unpacked bs)))
packed_next bs start used i k e h l =
    let n = start + used in
    let s : start + suc used ≡ suc n = omega arith in
    from_start bs start used n refl ∙ ap hardly (unpacked_next bs n i k e h l) ∙ ap (λ (z : List Input). hard (get_or (unpacked (get_or bs i 0 ∷ [])) k 0) ∷ z) (sym (from_start bs start (suc used) (suc n) s))

pub length_packed : (bs : List ℕ) (start : ℕ) → length (hardly (drop start (unpacked bs))) ≡ 4 * length bs - start
length_packed bs start = length_hardly (drop start (unpacked bs)) ∙ length-drop start (unpacked bs) ∙ ap (λ (n : ℕ). n - start) (length_unpacked bs)

-- push n of the first k pushes
pub take_hardly : (ds : List ℕ) (k : ℕ) → hardly (take k ds) ≡ take k (hardly ds)
take_hardly ds zero = refl
take_hardly [] (suc k) = refl
take_hardly (d ∷ ds) (suc k) = ap (λ (l : List Input). hard d ∷ l) (take_hardly ds k)

next_of_first : (xs : List Input) (k n : ℕ) (x : Input) → n < k → drop n xs ≡ x ∷ drop (suc n) xs → drop n (take k xs) ≡ x ∷ drop (suc n) (take k xs)
next_of_first xs zero n x h e = absurd (omega arith)
next_of_first [] (suc k) zero x h e = e
next_of_first [] (suc k) (suc n) x h e = e
next_of_first (y ∷ xs) (suc k) zero x h e = ap (take (suc k)) e
next_of_first (y ∷ xs) (suc k) (suc n) x h e = next_of_first xs k n x (omega arith) e

pub first_given : (ds : List ℕ) (k n : ℕ) (g : Option Given) → n < k → GivenBy (hardly ds) n g → GivenBy (hardly (take k ds)) n g
first_given ds k n None h b = omega (arith, b, length_hardly ds, length_hardly (take k ds), length-take k ds)
first_given ds k n (Some x) h b = rw (take_hardly ds k) (next_of_first (hardly ds) k n (input_of x) h b)

pub none_behind : (ds : List ℕ) (k n : ℕ) → k ≤ n → length (hardly (take k ds)) ≤ n
none_behind ds k n h = omega (arith, length_hardly (take k ds), length-take k ds)
