-- The least reliable places: picked one after the other, each the earliest of the least that are left, they come in the order of (key, place), and
-- before all others. Assumes nothing.
use mathlib.Core.Bool.{Bool, true, false, cond}
use mathlib.Core.List.{List}
use mathlib.Core.Path.{◌≡◌, refl, sym, ap, ◌∙◌}
use Prim.Native.Nat.{ℕ, zero, suc, ◌+◌, ◌*◌, ◌≤◌, ◌<◌, min}
use native.Mathlib.Decide.{dec_lt}
use native.Mathlib.Omega.{arith}
use lib.Dec.{ltb}
use lib.ListN.{length, get_or, set, length-set}
use lib.Seq.{get_or-set_same, get_or-set_other}
use borrow.Author.Tests.{ltb-true, ltb-false}
use Rattle.bits.specs.Bit.{sum, Bytes}
use Rattle.bits.proofs.Conds.{cond_both, cond_cases, cond_lt}
use Rattle.bits.proofs.Sums.{sum_ext, sum_zero}
use Rattle.bits.proofs.Tabs.{length_tab, tab_at}
use Rattle.voice_rules.specs.Soft.{reliability, least, tail_keys, counts_less, earliest, least_places, soft_repairs}
use Rattle.voice_rules.specs.SoftLaws.{counted, of_bit, Before, SoftLaws}

-- ---- the least of f 0, .., f n

least_le : (n : ℕ) (f : ℕ → ℕ) (j : ℕ) → j ≤ n → least n f ≤ f j
unfolding least
least_le zero f j h =
    let z : j ≡ 0 = omega arith in
    let e : f j ≡ f 0 = ap f z in omega arith
least_le (suc n) f j h = go (least_le n f j) (dec_lt j (suc n))
  where
    go : (j ≤ n → least n f ≤ f j) → Dec (j < suc n) → min (least n f) (f (suc n)) ≤ f j
    go on (yes l) = omega (arith, on (omega arith))
    go on (no l) =
        let z : j ≡ suc n = omega arith in
        let e : f j ≡ f (suc n) = ap f z in omega arith

least_is : (n : ℕ) (f : ℕ → ℕ) → (j : ℕ) × ((j < suc n) × (least n f ≡ f j))
unfolding least
least_is zero f = (0, (omega arith, refl))
least_is (suc n) f = go (least_is n f) (dec_lt (least n f) (f (suc n)))
  where
    go : (j : ℕ) × ((j < suc n) × (least n f ≡ f j)) → Dec (least n f < f (suc n)) → (j : ℕ) × ((j < suc (suc n)) × (min (least n f) (f (suc n)) ≡ f j))
    go r (yes l) = (r.0, (omega (arith, r.1.0), omega (arith, r.1.1)))
    go r (no l) = (suc n, (omega arith, omega arith))

-- ---- the earliest of the least

pub earliest_le : (keys : List ℕ) (n : ℕ) → earliest keys n ≤ n
unfolding earliest
earliest_le keys zero = omega arith
earliest_le keys (suc n) =
    cond_both (λ (x : ℕ). x ≤ suc n) (counts_less keys n (earliest keys n)) n (earliest keys n) (omega arith) (omega (arith, earliest_le keys n))

pub earliest_lt : (keys : List ℕ) (n : ℕ) → earliest keys (suc n) < suc n
unfolding earliest
earliest_lt keys n =
    cond_both (λ (x : ℕ). x < suc n) (counts_less keys n (earliest keys n)) n (earliest keys n) (omega arith) (omega (arith, earliest_le keys n))

-- p is q, or comes before it
abbrev AtOrBefore : List ℕ → ℕ → ℕ → Type 0
AtOrBefore keys p q = (get_or keys p 0 ≤ get_or keys q 0) × (get_or keys p 0 ≡ get_or keys q 0 → p ≤ q)

earliest_first : (keys : List ℕ) (n p : ℕ) → p < n → AtOrBefore keys (earliest keys n) p
unfolding earliest
earliest_first keys zero p h = absurd (omega arith)
earliest_first keys (suc n) p h =
    cond_cases (λ (x : ℕ). AtOrBefore keys x p) (counts_less keys n (earliest keys n)) n (earliest keys n)
    (λ t. less (earliest_first keys n p) (ltb-true _ _ t) (dec_lt p n)) (λ t. not_less (earliest_first keys n p) (ltb-false _ _ t) (dec_lt p n))
  where
    less : (p < n → AtOrBefore keys (earliest keys n) p) → get_or keys n 0 < get_or keys (earliest keys n) 0 → Dec (p < n) → AtOrBefore keys n p
    less on s (yes l) = let r = on l in (omega (arith, r.0), λ q. omega (arith, r.0))
    less on s (no l) =
        let z : p ≡ n = omega arith in
        let e : get_or keys p 0 ≡ get_or keys n 0 = ap (λ (i : ℕ). get_or keys i 0) z in (omega arith, λ q. omega arith)

    not_less : (p < n → AtOrBefore keys (earliest keys n) p) → get_or keys (earliest keys n) 0 ≤ get_or keys n 0 → Dec (p < n) → AtOrBefore keys (earliest keys n) p
    not_less on s (yes l) = on l
    not_less on s (no l) =
        let z : p ≡ n = omega arith in
        let e : get_or keys p 0 ≡ get_or keys n 0 = ap (λ (i : ℕ). get_or keys i 0) z in (omega arith, λ q. omega (arith, earliest_le keys n))

-- ---- places that are left

-- a sum that is less than the number of its terms has a term that is zero
some_zero : (n : ℕ) (f : ℕ → ℕ) → sum n f < n → (k : ℕ) × ((k < n) × (f k ≡ 0))
unfolding sum
some_zero zero f h = absurd (omega arith)
some_zero (suc n) f h = go (some_zero n (λ j. f (suc j))) (dec_lt 0 (f 0))
  where
    go : (sum n (λ j. f (suc j)) < n → (k : ℕ) × ((k < n) × (f (suc k) ≡ 0))) → Dec (0 < f 0) → (k : ℕ) × ((k < suc n) × (f k ≡ 0))
    go on (yes l) = let r = on (omega arith) in (suc r.0, (omega (arith, r.1.0), r.1.1))
    go on (no l) = (0, (omega arith, omega arith))

-- a sum of which one term is replaced by at most 1 grows by at most 1
one_replaced : (n : ℕ) (f g : ℕ → ℕ) (e : ℕ) → ((k : ℕ) → (k ≡ e → ⊥) → g k ≡ f k) → g e ≤ 1 → sum n g ≤ sum n f + 1
unfolding sum
one_replaced zero f g e s h = omega arith
one_replaced (suc n) f g zero s h = omega (arith, sum_ext n (λ j. g (suc j)) (λ j. f (suc j)) (λ j l. s (suc j) (λ q. omega arith)))
one_replaced (suc n) f g (suc e) s h =
    omega (arith, s 0 (λ q. omega arith), one_replaced n (λ j. f (suc j)) (λ j. g (suc j)) e (λ k o. s (suc k) (λ q. o (omega arith))) h)

-- 1 for a place whose key is marked, 256 or more
abbrev marked : List ℕ → ℕ → ℕ
marked keys p = cond (ltb (get_or keys p 0) 256) 0 1

marked_le : (keys : List ℕ) (p : ℕ) → marked keys p ≤ 1
marked_le keys p = cond_both (λ (x : ℕ). x ≤ 1) (ltb (get_or keys p 0) 256) 0 1 (omega arith) (omega arith)

not_marked : (keys : List ℕ) (p : ℕ) → marked keys p ≡ 0 → get_or keys p 0 < 256
not_marked keys p e = go (ltb (get_or keys p 0) 256) refl e
  where
    go : (t : Bool) → ltb (get_or keys p 0) 256 ≡ t → ◌≡◌ {A = ℕ} (cond t 0 1) 0 → get_or keys p 0 < 256
    go true q e = ltb-true (get_or keys p 0) 256 q
    go false q e = absurd (omega arith)

-- fourteen keys of which n are still to be picked
record Left (keys : List ℕ) (n : ℕ) : Type 0 where
  long : length keys ≡ 14
  enough : sum 14 (marked keys) + n ≤ 14

-- ---- one is picked

module _ (keys : List ℕ) (n : ℕ) (u : Left keys (suc n)) where
  pick : ℕ
  pick = earliest keys 14

  rest : List ℕ
  rest = set keys pick 256

  in_range : pick < length keys
  unfolding pick
  in_range = omega (arith, earliest_lt keys 13, u.long)

  picked : (pick < 14) × (get_or keys pick 0 < 256)
  unfolding pick
  picked =
      let r = some_zero 14 (marked keys) (omega (arith, u.enough)) in
      (earliest_lt keys 13, omega (arith, (earliest_first keys 14 r.0 r.1.0).0, not_marked keys r.0 r.1.1))

  same : (q : ℕ) → (q ≡ pick → ⊥) → get_or rest q 0 ≡ get_or keys q 0
  unfolding rest
  same q o = get_or-set_other keys pick q 256 0 o

  other : (q : ℕ) → get_or rest q 0 < 256 → q ≡ pick → ⊥
  unfolding rest
  other q h z = let s : get_or rest q 0 ≡ 256 = ap (λ (i : ℕ). get_or rest i 0) z ∙ get_or-set_same keys pick 256 0 in_range in omega arith

  left : Left rest n
  unfolding rest
  left =
      record {
        long = length-set keys pick 256 ∙ u.long;
        enough = omega (arith, u.enough, one_replaced 14 (marked keys) (marked rest) pick (λ k o. ap (λ (v : ℕ). cond (ltb v 256) 0 1) (same k o)) (marked_le rest pick));
      }

  first : (q : ℕ) → q < 14 → (q ≡ pick → ⊥) → Before keys pick q
  unfolding pick
  first q h o = let r = earliest_first keys 14 q h in (r.0, λ e. omega (arith, r.1 e, o))

  still : (p q : ℕ) → (p ≡ pick → ⊥) → (q ≡ pick → ⊥) → Before rest p q → Before keys p q
  still p q op oq h = (omega (arith, h.0, same p op, same q oq), λ e. h.1 (same p op ∙ e ∙ sym (same q oq)))

-- ---- all of them

abbrev place_at : List ℕ → ℕ → ℕ → ℕ
place_at keys n i = get_or (least_places keys n) i 0

length_places : (keys : List ℕ) (n : ℕ) → length (least_places keys n) ≡ n
unfolding least_places
length_places keys zero = refl
length_places keys (suc n) = ap suc (length_places (set keys (earliest keys 14) 256) n)

places_free : (keys : List ℕ) (n : ℕ) → Left keys n → (i : ℕ) → i < n → (place_at keys n i < 14) × (get_or keys (place_at keys n i) 0 < 256)
unfolding least_places pick rest
places_free keys zero u i h = absurd (omega arith)
places_free keys (suc n) u zero h = picked keys n u
places_free keys (suc n) u (suc i) h =
    let r = places_free (rest keys n u) n (left keys n u) i (omega arith) in
    let q : ℕ = place_at (rest keys n u) n i in
    (r.0, omega (arith, r.1, same keys n u q (other keys n u q r.1)))

places_order : (keys : List ℕ) (n : ℕ) → Left keys n → (i j : ℕ) → i < j → j < n → Before keys (place_at keys n i) (place_at keys n j)
unfolding least_places pick rest
places_order keys zero u i j l h = absurd (omega arith)
places_order keys (suc n) u i zero l h = absurd (omega arith)
places_order keys (suc n) u zero (suc j) l h =
    let r = places_free (rest keys n u) n (left keys n u) j (omega arith) in
    let q : ℕ = place_at (rest keys n u) n j in
    first keys n u q r.0 (other keys n u q r.1)
places_order keys (suc n) u (suc i) (suc j) l h =
    let rp = places_free (rest keys n u) n (left keys n u) i (omega arith) in
    let rq = places_free (rest keys n u) n (left keys n u) j (omega arith) in
    let p : ℕ = place_at (rest keys n u) n i in
    let q : ℕ = place_at (rest keys n u) n j in
    still keys n u p q (other keys n u p rp.1) (other keys n u q rq.1) (places_order (rest keys n u) n (left keys n u) i j (omega arith) (omega arith))

places_first : (keys : List ℕ) (n : ℕ) → Left keys n → (i p : ℕ) → i < n → p < 14 → ((j : ℕ) → j < n → place_at keys n j ≡ p → ⊥) → Before keys (place_at keys n i) p
unfolding least_places pick rest
places_first keys zero u i p h l out = absurd (omega arith)
places_first keys (suc n) u zero p h l out = first keys n u p l (λ e. out 0 (omega arith) (sym e))
places_first keys (suc n) u (suc i) p h l out =
    let r = places_free (rest keys n u) n (left keys n u) i (omega arith) in
    let q : ℕ = place_at (rest keys n u) n i in
    still keys n u q p (other keys n u q r.1) (λ e. out 0 (omega arith) (sym e))
    (places_first (rest keys n u) n (left keys n u) i p (omega arith) l (λ j m. out (suc j) (omega arith)))

-- ---- the tail's keys

counted_is : (rs : List ℕ) (b : ℕ) → b < 14 → counted rs b ≡ least 7 (of_bit rs b)
unfolding tail_keys
counted_is rs b h = tab_at 14 (λ b. least 7 (λ j. reliability rs (8 * (28 + b) + j))) b h

module _ (rs : List ℕ) (bytes : Bytes rs) where
  free : (p : ℕ) → p < 14 → marked (tail_keys rs) p ≡ 0
  free p h =
      let l : least 7 (of_bit rs p) ≤ of_bit rs p 0 = least_le 7 (of_bit rs p) 0 (omega arith) in
      let m : of_bit rs p 0 < 256 = bytes.at _ in
      cond_lt {A = ℕ} (counted rs p) 256 0 1 (omega (arith, counted_is rs p h))

  all_left : (n : ℕ) → n ≤ 14 → Left (tail_keys rs) n
  unfolding tail_keys
  all_left n h =
      record {
        long = length_tab 14 (λ b. least 7 (λ j. reliability rs (8 * (28 + b) + j)));
        enough = omega (arith, sum_zero 14 (marked (tail_keys rs)) free);
      }

pub soft_laws : SoftLaws
unfolding soft_repairs least_places
soft_laws =
    record {
      counts_as_one = λ rs b h. let r = least_is 7 (of_bit rs b) in (r.0, (r.1.0, counted_is rs b h ∙ r.1.1));
      counts_as_least = λ rs b j h l. omega (arith, counted_is rs b h, least_le 7 (of_bit rs b) j (omega arith));
      so_many = λ rs n. length_places (tail_keys rs) n;
      in_tail = λ rs bytes n i h l. (places_free (tail_keys rs) n (all_left rs bytes n h) i l).0;
      distinct = λ rs bytes n i j h l m e.
          let r = places_order (tail_keys rs) n (all_left rs bytes n h) i j l m in omega (arith, e, r.1 (ap (λ (p : ℕ). counted rs p) e));
      in_order = λ rs bytes n i j h l m. places_order (tail_keys rs) n (all_left rs bytes n h) i j l m;
      none_before = λ rs bytes n i p h l m out. places_first (tail_keys rs) n (all_left rs bytes n h) i p l m out;
      numbers = λ word rs. refl;
    }
