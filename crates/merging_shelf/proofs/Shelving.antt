-- The shelf: a slot is taken exactly where its number waits, so that a slot is always free.
-- Assumes nothing.
use Rattle.std.proofs.Common.{Option, Some, None}
use mathlib.Core.Path.{◌≡◌, refl, sym, ap, ◌∙◌}
use mathlib.Core.Bool.{Bool, true, false, cond, not}
use mathlib.Core.List.{List, [], ◌∷◌}
use Prim.Native.Nat.{ℕ, zero, suc, ◌+◌, ◌*◌, ◌≤◌, ◌<◌, suc-le-suc}
use native.Mathlib.Nat.{not-suc-le-zero, le_of_suc-le-suc}
use native.Mathlib.Omega.{arith}
use lib.Dec.{eqb, ltb}
use lib.ListN.{length, get_or, set, replicate, length-set}
use lib.Seq.{get_or-set_same, get_or-set_other}
use borrow.Author.Tests.{eqb-true, eqb-false, ltb-true, ltb-false, lt-ltb}
use Rattle.std.specs.Prelude.{map, position}
use Rattle.std.specs.List.{position_or_len}
use Rattle.std.proofs.lemmas.List.Recursion.{is_position_or_len}
use Rattle.bits.specs.Bit.{sum}
use Rattle.bits.proofs.Conds.{cond_eq, cond_ne, cond_both}
use Rattle.bits.proofs.Sums.{sum_ext, sum_zero, sum_one, sum_plus}
use Rattle.merger_rules.specs.Counts.{one, in_place, in_free, pending_of, in_freed}
use Rattle.merger_rules.specs.declared.Freed.{Freed}
use Rattle.merger_rules.specs.declared.Position.{Position}
use Rattle.journal_rules.specs.declared.Tried.{Tried}
use Rattle.merging_shelf.specs.Slots.{shelf_slots, free_slot, bit_at, used, IsSlot, cleared, count_free, count_freed, slot_at, freed, cleared_slots}
use Rattle.merging_shelf.specs.declared.Slot.{Slot}
use Rattle.merger_rules.specs.declared.Held.{Held}

-- ---- sums over the slots

pub one_same : (k : ℕ) → one k k ≡ 1
one_same k = cond_eq {A = ℕ} k k 1 0 refl

one_other : (x k : ℕ) → (k ≡ x → ⊥) → one x k ≡ 0
one_other x k h = cond_ne {A = ℕ} k x 1 0 h

one_past : (n k : ℕ) → n ≤ k → sum n (λ x. one x k) ≡ 0
one_past n k h = sum_zero n (λ x. one x k) (λ x l. one_other x k (λ e. omega arith))

one_within : (n k : ℕ) → k < n → sum n (λ x. one x k) ≡ 1
one_within n k h = sum_one n (λ x. one x k) k h (λ x o. one_other x k (λ e. o (sym e))) ∙ one_same k

one_few : (n k : ℕ) → sum n (λ x. one x k) ≤ 1
one_few n k = by (ltb k n) refl
  where
    by : (b : Bool) → ltb k n ≡ b → sum n (λ x. one x k) ≤ 1
    by true e = omega (arith, one_within n k (ltb-true k n e))
    by false e = omega (arith, one_past n k (ltb-false k n e))

place_few : (n : ℕ) (q : Option Held) → sum n (λ x. in_place x q) ≤ 1
place_few n None = omega (arith, sum_zero n (λ x. 0) (λ x l. refl))
place_few n (Some h) = one_few n h.number

-- at most two frames a position
pending_few : (n : ℕ) (l : List Position) → sum n (λ x. pending_of x l) ≤ 2 * length l
unfolding pending_of
pending_few n [] = omega (arith, sum_zero n (λ x. pending_of x []) (λ x l. refl))
pending_few n (p ∷ ps) =
    let all : sum n (λ x. pending_of x (p ∷ ps)) ≡ sum n (λ x. in_place x p.primary + in_place x p.alternate) + sum n (λ x. pending_of x ps)
    = sum_plus n (λ x. in_place x p.primary + in_place x p.alternate) (λ x. pending_of x ps) in
    let both : sum n (λ x. in_place x p.primary + in_place x p.alternate) ≡ sum n (λ x. in_place x p.primary) + sum n (λ x. in_place x p.alternate)
    = sum_plus n (λ x. in_place x p.primary) (λ x. in_place x p.alternate) in
    omega (arith, place_few n p.primary, place_few n p.alternate, pending_few n ps)

free_sum : (f : Option ℕ) → IsSlot f → sum shelf_slots (λ x. in_free x f) ≡ count_free f
free_sum None s = sum_zero shelf_slots (λ x. 0) (λ x l. refl)
free_sum (Some n) s = one_within shelf_slots n s

-- ---- slots

bit_few : (t : List Bool) (x : ℕ) → bit_at t x ≤ 1
unfolding bit_at
bit_few t x = cond_both (λ (n : ℕ). n ≤ 1) (get_or t x false) 1 0 (omega arith) (omega arith)

pub bit_free : (t : List Bool) (x : ℕ) → get_or t x false ≡ false → bit_at t x ≡ 0
unfolding bit_at
bit_free t x e = ap (λ (b : Bool). cond b 1 0) e

bit_taken : (t : List Bool) (x : ℕ) → get_or t x false ≡ true → bit_at t x ≡ 1
unfolding bit_at
bit_taken t x e = ap (λ (b : Bool). cond b 1 0) e

bit_within : (t : List Bool) (x : ℕ) → 1 ≤ bit_at t x → x < length t
unfolding bit_at
bit_within [] x h = absurd (omega arith)
bit_within (b ∷ t) zero h = omega arith
bit_within (b ∷ t) (suc x) h = suc-le-suc (bit_within t x h)

bit_alike : (t u : List Bool) (x : ℕ) → get_or t x false ≡ get_or u x false → bit_at t x ≡ bit_at u x
unfolding bit_at
bit_alike t u x e = ap (λ (b : Bool). cond b 1 0) e

-- all slots taken are as many as there are
all_used : (n : ℕ) (t : List Bool) → ((k : ℕ) → k < n → get_or t k false ≡ true) → sum n (bit_at t) ≡ n
unfolding sum
all_used n t h = sum_ext n (bit_at t) (λ x. 1) (λ k l. bit_taken t k (h k l)) ∙ ones n
  where
    ones : (m : ℕ) → sum m (λ x. 1) ≡ m
    ones zero = refl
    ones (suc m) = omega (arith, ones m)

pub not_all : (t : List Bool) → used t < shelf_slots → ((k : ℕ) → k < shelf_slots → get_or t k false ≡ true) → ⊥
unfolding used
not_all t u h = omega (arith, all_used shelf_slots t h)

-- the slots before the first free one are taken, and it is not
before_free : (t : List Bool) (k : ℕ) → k < free_slot t → get_or t k false ≡ true
unfolding free_slot
before_free [] k h = absurd (not-suc-le-zero h)
before_free (false ∷ t) k h = absurd (not-suc-le-zero h)
before_free (true ∷ t) zero h = refl
before_free (true ∷ t) (suc k) h = before_free t k (le_of_suc-le-suc h)

pub free_is : (t : List Bool) → get_or t (free_slot t) false ≡ false
unfolding free_slot
free_is [] = refl
free_is (false ∷ t) = refl
free_is (true ∷ t) = free_is t

pub free_within : (t : List Bool) → used t < shelf_slots → free_slot t < shelf_slots
free_within t u = by (ltb (free_slot t) shelf_slots) refl
  where
    by : (b : Bool) → ltb (free_slot t) shelf_slots ≡ b → free_slot t < shelf_slots
    by true e = ltb-true _ _ e
    by false e = let past : shelf_slots ≤ free_slot t = ltb-false _ _ e in absurd (not_all t u (λ k h. before_free t k (omega arith)))

-- it is the first that a search finds
pub first_found : (l : List Slot) → length l ≡ shelf_slots → used (map (λ (s : Slot). s.taken) l) < shelf_slots → position (λ (s : Slot). not s.taken) l ≡ Some (free_slot (map (λ (s : Slot). s.taken) l))
unfolding free_slot
first_found l n u =
    let e : first l ≡ position_or_len (λ (s : Slot). not s.taken) l = is_position_or_len first (λ (s : Slot). not s.taken) refl step l in
    let within : position_or_len (λ (s : Slot). not s.taken) l < length l = let h : first l < shelf_slots = free_within (map (λ (s : Slot). s.taken) l) u in omega arith in
    ap (λ (c : Bool). cond c (Some (position_or_len (λ (s : Slot). not s.taken) l)) None) (lt-ltb _ _ within) ∙ ap Some (sym e)
  where
    first : List Slot → ℕ
    first l = free_slot (map (λ (s : Slot). s.taken) l)

    step : (s : Slot) (l : List Slot) → first (s ∷ l) ≡ cond (not s.taken) 0 (1 + first l)
    step s l = by s.taken
      where
        by : (b : Bool) → cond b (suc (first l)) 0 ≡ cond (not b) 0 (1 + first l)
        by true = omega arith
        by false = refl

pub none_used : (t : List Bool) (l : List Position) → ((x : ℕ) → bit_at t x ≡ pending_of x l) → length l ≡ 0 → used t ≡ 0
unfolding used
none_used t l s e = omega (arith, sum_ext shelf_slots (bit_at t) (λ x. pending_of x l) (λ x k. s x), pending_few shelf_slots l)

-- 16 positions leave a slot free
pub room_left : (t : List Bool) (l : List Position) → ((x : ℕ) → bit_at t x ≡ pending_of x l) → length l ≤ 16 → used t < shelf_slots
unfolding used
room_left t l s h = omega (arith, sum_ext shelf_slots (bit_at t) (λ x. pending_of x l) (λ x k. s x), pending_few shelf_slots l)

-- the empty shelf
none_taken : (n x : ℕ) → get_or (replicate n false) x false ≡ false
none_taken zero x = refl
none_taken (suc n) zero = refl
none_taken (suc n) (suc x) = none_taken n x

pub empty_shelved : (t : List Bool) (l : List Position) → t ≡ replicate shelf_slots false → l ≡ [] → (x : ℕ) → bit_at t x ≡ pending_of x l
unfolding pending_of
empty_shelved t l e f x =
    ap (λ (u : List Bool). bit_at u x) e ∙ bit_free (replicate shelf_slots false) x (none_taken shelf_slots x) ∙ sym (ap (λ (m : List Position). pending_of x m) f)

-- ---- a frame goes into a free slot

module _ (t : List Bool) (slot : ℕ) (within : slot < length t) (free : get_or t slot false ≡ false) where
  pub slot_filled : (x : ℕ) → bit_at (set t slot true) x ≡ one x slot + bit_at t x
  slot_filled x = by (eqb slot x) refl
    where
      by : (b : Bool) → eqb slot x ≡ b → bit_at (set t slot true) x ≡ one x slot + bit_at t x
      by true e =
          let same : slot ≡ x = eqb-true slot x e in
          let now : bit_at (set t slot true) slot ≡ 1 = bit_taken (set t slot true) slot (get_or-set_same t slot true false within) in
          let before : bit_at t slot ≡ 0 = bit_free t slot free in
          let here : one slot slot ≡ 1 = one_same slot in
          rw (← same) (omega arith)
      by false e =
          let other : slot ≡ x → ⊥ = eqb-false slot x e in
          let still : bit_at (set t slot true) x ≡ bit_at t x = bit_alike (set t slot true) t x (get_or-set_other t slot x true false (λ k. other (sym k))) in
          omega (arith, one_other x slot other)

  pub one_more_used : slot < shelf_slots → used (set t slot true) ≡ used t + 1
  unfolding used
  one_more_used h =
      let all : sum shelf_slots (bit_at (set t slot true)) ≡ sum shelf_slots (λ x. one x slot + bit_at t x) = sum_ext shelf_slots (bit_at (set t slot true)) (λ x. one x slot + bit_at t x) (λ x l. slot_filled x) in
      let parts : sum shelf_slots (λ x. one x slot + bit_at t x) ≡ sum shelf_slots (λ x. one x slot) + sum shelf_slots (bit_at t) = sum_plus shelf_slots (λ x. one x slot) (bit_at t) in
      omega (arith, one_within shelf_slots slot h)

-- ---- numbers that are given back

cleared_same : (t : List Bool) (n : ℕ) → get_or (set t n false) n false ≡ false
cleared_same [] n = refl
cleared_same (b ∷ t) zero = refl
cleared_same (b ∷ t) (suc n) = cleared_same t n

cleared_bit : (f : Option ℕ) (t : List Bool) (rest : ℕ → ℕ) → ((x : ℕ) → bit_at t x ≡ in_free x f + rest x) → (x : ℕ) → bit_at (cleared f t) x ≡ rest x
cleared_bit None t rest h x = omega (arith, h x)
cleared_bit (Some n) t rest h x = by (eqb n x) refl
  where
    by : (b : Bool) → eqb n x ≡ b → bit_at (set t n false) x ≡ rest x
    by true e =
        let same : n ≡ x = eqb-true n x e in
        let now : bit_at (set t n false) n ≡ 0 = bit_free (set t n false) n (cleared_same t n) in
        let was : bit_at t n ≡ one n n + rest n = h n in
        let few : bit_at t n ≤ 1 = bit_few t n in
        let here : one n n ≡ 1 = one_same n in
        rw (← same) (omega arith)
    by false e =
        let other : n ≡ x → ⊥ = eqb-false n x e in
        let still : bit_at (set t n false) x ≡ bit_at t x = bit_alike (set t n false) t x (get_or-set_other t n x false false (λ k. other (sym k))) in
        let was : bit_at t x ≡ one x n + rest x = h x in
        omega (arith, one_other x n other)

cleared_long : (f : Option ℕ) (t : List Bool) → length (cleared f t) ≡ length t
cleared_long None t = refl
cleared_long (Some n) t = length-set t n false

small_free : (f : Option ℕ) (t : List Bool) → length t ≡ shelf_slots → ((x : ℕ) → in_free x f ≤ bit_at t x) → IsSlot f
small_free None t l h = tt
small_free (Some n) t l h =
    let few : one n n ≤ bit_at t n = h n in
    let within : n < length t = bit_within t n (omega (arith, one_same n)) in
    omega arith

module _ (t : List Bool) (f : Freed) (rest : ℕ → ℕ) (long : length t ≡ shelf_slots) (gives : (x : ℕ) → bit_at t x ≡ in_freed x f + rest x) where
  pub small_freed : IsSlot f.primary × IsSlot f.alternate
  small_freed =
      (small_free f.primary t long (λ x. omega (arith, gives x)), small_free f.alternate t long (λ x. omega (arith, gives x)))

  pub slots_freed : (x : ℕ) → bit_at (cleared f.alternate (cleared f.primary t)) x ≡ rest x
  slots_freed = cleared_bit f.alternate (cleared f.primary t) rest (cleared_bit f.primary t (λ x. in_free x f.alternate + rest x) (λ x. omega (arith, gives x)))

  pub fewer_used : used t ≡ count_freed f + used (cleared f.alternate (cleared f.primary t))
  unfolding used
  fewer_used =
      let u : List Bool = cleared f.alternate (cleared f.primary t) in
      let all : sum shelf_slots (bit_at t) ≡ sum shelf_slots (λ x. in_freed x f + bit_at u x) = sum_ext shelf_slots (bit_at t) (λ x. in_freed x f + bit_at u x) (λ x l. omega (arith, gives x, slots_freed x)) in
      let parts : sum shelf_slots (λ x. in_freed x f + bit_at u x) ≡ sum shelf_slots (λ x. in_freed x f) + sum shelf_slots (bit_at u) = sum_plus shelf_slots (λ x. in_freed x f) (bit_at u) in
      let both : sum shelf_slots (λ x. in_freed x f) ≡ sum shelf_slots (λ x. in_free x f.primary) + sum shelf_slots (λ x. in_free x f.alternate) = sum_plus shelf_slots (λ x. in_free x f.primary) (λ x. in_free x f.alternate) in
      omega (arith, free_sum f.primary small_freed.0, free_sum f.alternate small_freed.1)

  pub as_long : length (cleared f.alternate (cleared f.primary t)) ≡ shelf_slots
  as_long = cleared_long f.alternate (cleared f.primary t) ∙ cleared_long f.primary t ∙ long

  pub number_small : (x : ℕ) → 1 ≤ in_freed x f → x < shelf_slots
  number_small x h = let within : x < length t = bit_within t x (omega (arith, gives x)) in omega arith

-- ---- the slots themselves

map_set : (f : Slot → Bool) (l : List Slot) (n : ℕ) (x : Slot) → map f (set l n x) ≡ set (map f l) n (f x)
map_set f [] n x = refl
map_set f (y ∷ l) zero x = refl
map_set f (y ∷ l) (suc n) x = ap (λ (m : List Bool). f y ∷ m) (map_set f l n x)

-- a frame that is laid into a slot takes it
pub taken_laid : (l : List Slot) (n : ℕ) (t : Tried) (envelope : List ℕ)
    → map (λ (s : Slot). s.taken) (set l n (record { taken = true; tried = t; envelope = envelope })) ≡ set (map (λ (s : Slot). s.taken) l) n true
taken_laid l n t envelope = map_set (λ (s : Slot). s.taken) l n _

pub taken_cleared : (f : Option ℕ) (l : List Slot) → map (λ (s : Slot). s.taken) (cleared_slots f l) ≡ cleared f (map (λ (s : Slot). s.taken) l)
taken_cleared None l = refl
taken_cleared (Some n) l = map_set (λ (s : Slot). s.taken) l n _

pub taken_without : (f : Freed) (l : List Slot)
    → map (λ (s : Slot). s.taken) (cleared_slots f.alternate (cleared_slots f.primary l)) ≡ cleared f.alternate (cleared f.primary (map (λ (s : Slot). s.taken) l))
taken_without f l = taken_cleared f.alternate (cleared_slots f.primary l) ∙ ap (cleared f.alternate) (taken_cleared f.primary l)

pub cleared_many : (f : Option ℕ) (l : List Slot) → length (cleared_slots f l) ≡ length l
cleared_many None l = refl
cleared_many (Some n) l = length-set l n _

-- what holds of what lies in a slot holds after slots are freed
freed_keeps : {A : Type 0} (f : Slot → A) (l : List Slot) (n x : ℕ) → ((s : Slot) → f (freed s) ≡ f s) → f (slot_at (set l n (freed (slot_at l n))) x) ≡ f (slot_at l x)
freed_keeps f [] n x h = refl
freed_keeps f (s ∷ l) zero zero h = h s
freed_keeps f (s ∷ l) zero (suc x) h = refl
freed_keeps f (s ∷ l) (suc n) zero h = refl
freed_keeps f (s ∷ l) (suc n) (suc x) h = freed_keeps f l n x h

pub cleared_keeps : {A : Type 0} (g : Slot → A) (f : Option ℕ) (l : List Slot) (x : ℕ) → ((s : Slot) → g (freed s) ≡ g s) → g (slot_at (cleared_slots f l) x) ≡ g (slot_at l x)
cleared_keeps g None l x h = refl
cleared_keeps g (Some n) l x h = freed_keeps g l n x h
