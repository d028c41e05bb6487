-- Turns of the loops: one law for each loop's step.
-- Assumes nothing.
use mathlib.Core.Bool.{cond}
use mathlib.Core.List.{List, [], ◌∷◌, ◌++◌}
use mathlib.Core.Path.{◌≡◌, refl, sym, ap, ap₂, ◌∙◌}
use Prim.Native.Nat.{ℕ, ◌+◌, ◌*◌, ◌/◌, ◌%◌, ◌<◌, ◌≤◌}
use native.Mathlib.Nat.{not-suc-le-zero, zero-add, add-zero, add_assoc}
use native.Mathlib.Numerals.{add-one}
use native.Mathlib.Decide.{ℕ_discrete}
use native.Mathlib.Omega.{arith}
use lib.Dec.{ltb, eqb, lit<}
use lib.ListN.{length, get_or, take, set, length-take, length-set}
use lib.Seq.{take-suc, get_or-set_same, get_or-set_other}
use Rattle.bits.specs.Bit.{tab}
use Rattle.bits.proofs.Conds.{cond_both, cond_eq, cond_ne}
use Rattle.bits.proofs.Tabs.{length_tab, tab_at, is_tab}
use Rattle.protected_rules.specs.Table.{count, index_of, Admitted}
use Rattle.protected_rules.specs.Checksum.{crc8_step, crc8_run, then_zeros}
use Rattle.protected_rules.specs.Convolution.{parity_of, state_after, register, even_mask, odd_mask, entry_bit, convolved, inverse_bit, inverse_state}
use Rattle.protected_rules.proofs.CodedBits.{index_of_lem, index_found}

-- ---- counting

pub count_append : (k : ℕ) (a b : List ℕ) → count k (a ++ b) ≡ count k a + count k b
unfolding count
count_append k [] b = sym (zero-add (count k b))
count_append k (x ∷ a) b = ap (λ (n : ℕ). cond (eqb k x) 1 0 + n) (count_append k a b) ∙ sym (add_assoc (cond (eqb k x) 1 0) (count k a) (count k b))

pub count_le : (k : ℕ) (l : List ℕ) → count k l ≤ length l
unfolding count
count_le k [] = omega arith
count_le k (x ∷ l) = omega (arith, count_le k l, cond_both (λ (v : ℕ). v ≤ 1) (eqb k x) 1 0 (omega arith) (omega arith))

one_count : (k x : ℕ) → count k (x ∷ []) ≡ cond (eqb k x) 1 0
unfolding count
one_count k x = add-zero (cond (eqb k x) 1 0)

pub count_none : (k : ℕ) → 0 ≡ count k []
unfolding count
count_none k = refl

-- an entry more, counted at its number
pub count_turn : (l seen : List ℕ) (i e : ℕ) → i < length l → e ≡ get_or l i 0 → e < length seen
    → ((k : ℕ) → k < 256 → get_or seen k 0 ≡ count k (take i l)) → (k : ℕ) → k < 256 → get_or (set seen e (get_or seen e 0 + 1)) k 0 ≡ count k (take (i + 1) l)
count_turn l seen i e h q s inv k hk =
    go (ℕ_discrete k e)
    ∙ sym (ap (count k) (ap (λ (n : ℕ). take n l) (add-one i) ∙ take-suc l i 0 h) ∙ count_append k (take i l) (get_or l i 0 ∷ [])
    ∙ ap (λ (x : ℕ). count k (take i l) + x) (one_count k (get_or l i 0) ∙ ap (λ (x : ℕ). cond {A = ℕ} (eqb k x) 1 0) (sym q)))
  where
    go : Dec (k ≡ e) → get_or (set seen e (get_or seen e 0 + 1)) k 0 ≡ count k (take i l) + cond (eqb k e) 1 0
    go (yes p) =
        ap (λ (k : ℕ). get_or (set seen e (get_or seen e 0 + 1)) k 0) p ∙ get_or-set_same seen e (get_or seen e 0 + 1) 0 s
        ∙ ap₂ (λ (x y : ℕ). x + y) (ap (λ (k : ℕ). get_or seen k 0) (sym p) ∙ inv k hk) (sym (cond_eq {A = ℕ} k e 1 0 p))
    go (no p) =
        get_or-set_other seen e k (get_or seen e 0 + 1) 0 p ∙ inv k hk ∙ sym (add-zero (count k (take i l)))
        ∙ ap (λ (x : ℕ). count k (take i l) + x) (sym (cond_ne {A = ℕ} k e 1 0 p))

pub count_taken : (k i : ℕ) (l : List ℕ) → count k (take i l) ≤ i
count_taken k i l = omega (arith, count_le k (take i l), length-take i l)

-- ---- the checksum

pub crc8_turn : (f : ℕ → ℕ) (n : ℕ) {q q' : ℕ} → q ≡ crc8_run f n → q' ≡ crc8_step q (f n) → q' ≡ crc8_run f (n + 1)
unfolding crc8_run
crc8_turn f n e h = rw add-one (h ∙ ap (λ (x : ℕ). crc8_step x (f n)) e)

pub then_zeros_lt : (f : ℕ → ℕ) (i : ℕ) → ((k : ℕ) → f k < 2) → then_zeros f i < 2
then_zeros_lt f i h = cond_both (λ (v : ℕ). v < 2) (ltb i 78) (f i) 0 (h i) (lit< tt)

-- ---- the code

pub entry_even : (x : List ℕ) (t : ℕ) → entry_bit x (2 * t) ≡ parity_of even_mask (register x t)
unfolding entry_bit
entry_even x t =
    let e : 2 * t / 2 ≡ t = omega arith in
    ap₂ (λ (g i : ℕ). parity_of g (register x i)) (cond_eq {A = ℕ} (2 * t % 2) 0 even_mask odd_mask (omega arith)) e

pub entry_odd : (x : List ℕ) (t : ℕ) → entry_bit x (2 * t + 1) ≡ parity_of odd_mask (register x t)
unfolding entry_bit
entry_odd x t =
    let e : (2 * t + 1) / 2 ≡ t = omega arith in
    ap₂ (λ (g i : ℕ). parity_of g (register x i)) (cond_ne {A = ℕ} ((2 * t + 1) % 2) 0 even_mask odd_mask (λ q. omega arith)) e

-- the first n entries' bits are in their slots
pub record Slotted (table x slots : List ℕ) (n : ℕ) : Type 0 where
  pub long : length slots ≡ 256
  pub holds : (e : ℕ) → e < n → get_or table e 0 < 176 → get_or slots (get_or table e 0) 0 ≡ entry_bit x e

pub slotted_none : (table x slots : List ℕ) → length slots ≡ 256 → Slotted table x slots 0
slotted_none table x slots h = record { long = h; holds = λ e l. absurd (not-suc-le-zero l) }

pub slot_turn : (table : List ℕ) → Admitted table → (x slots : List ℕ) (n k v : ℕ) → n < 188 → k ≡ get_or table n 0 → k < 256 → v ≡ entry_bit x n
    → Slotted table x slots n → Slotted table x (set slots k v) (n + 1)
slot_turn table a x slots n k v h ek hk ev s =
    record { long = length-set slots k v ∙ s.long; holds = λ e l m. go e l m (ℕ_discrete e n) (ℕ_discrete (get_or table e 0) k) }
  where
    go : (e : ℕ) → e < n + 1 → get_or table e 0 < 176 → Dec (e ≡ n) → Dec (get_or table e 0 ≡ k) → get_or (set slots k v) (get_or table e 0) 0 ≡ entry_bit x e
    go e l m (yes p) q =
        ap (λ (i : ℕ). get_or (set slots k v) i 0) (ap (λ (i : ℕ). get_or table i 0) p ∙ sym ek) ∙ get_or-set_same slots k v 0 (omega (arith, s.long)) ∙ ev ∙ ap (entry_bit x) (sym p)
    go e l m (no p) (no q) = get_or-set_other slots k (get_or table e 0) v 0 q ∙ s.holds e (omega arith) m
    go e l m (no p) (yes q) =
        absurd (p (sym (index_of_lem (get_or table e 0) table e (omega (arith, a.long)) refl (a.once (get_or table e 0) m))
        ∙ index_of_lem (get_or table e 0) table n (omega (arith, a.long)) (sym ek ∙ sym q) (a.once (get_or table e 0) m)))

pub slotted_all : (table : List ℕ) → Admitted table → (x slots : List ℕ) → Slotted table x slots 188 → tab 176 (λ (k : ℕ). get_or slots k 0) ≡ convolved table x
unfolding convolved
slotted_all table a x slots s =
    is_tab (tab 176 (λ (k : ℕ). get_or slots k 0)) 176 (λ k. entry_bit x (index_of k table)) (length_tab 176 (λ (k : ℕ). get_or slots k 0)) (λ k h.
    let f = index_found k table (omega (arith, a.once k h)) in
    tab_at 176 (λ (k : ℕ). get_or slots k 0) k h ∙ ap (λ (k : ℕ). get_or slots k 0) (sym f.1)
    ∙ s.holds (index_of k table) (omega (arith, a.long, f.0)) (rw f.1 h))

pub state_none : (x : List ℕ) → 0 ≡ state_after x 0
unfolding state_after
state_none x = refl

pub state_turn : (x : List ℕ) (t : ℕ) {s r : ℕ} → s ≡ state_after x t → r ≡ 2 * s + get_or x t 0 → r % 256 ≡ state_after x (t + 1)
unfolding state_after
state_turn x t e h = rw add-one (ap (λ (v : ℕ). v % 256) (h ∙ ap (λ (v : ℕ). 2 * v + get_or x t 0) e))

pub inverse_none : (table received : List ℕ) → 0 ≡ inverse_state table received 0
unfolding inverse_state
inverse_none table received = refl

pub inverse_turn : (table received : List ℕ) (t : ℕ) {s b : ℕ} → s ≡ inverse_state table received t → b ≡ inverse_bit s (get_or received (get_or table (2 * t + 1) 0) 0)
    → (2 * s + b) % 256 ≡ inverse_state table received (t + 1)
unfolding inverse_state
inverse_turn table received t {s} {b} e h =
    rw add-one (ap (λ (v : ℕ). (2 * s + v) % 256) h ∙ ap (λ (v : ℕ). (2 * v + inverse_bit v (get_or received (get_or table (2 * t + 1) 0) 0)) % 256) e)

-- ---- a step of the code: both parities into their slots

pub code_turn : (table : List ℕ) → Admitted table → (x slots : List ℕ) (t s b even odd p q : ℕ) → t < 94 → s ≡ state_after x t → b ≡ get_or x t 0
    → even ≡ get_or table (2 * t) 0 → even < 256 → odd ≡ get_or table (2 * t + 1) 0 → odd < 256 → p ≡ parity_of even_mask (2 * s + b) → q ≡ parity_of odd_mask (2 * s + b)
    → Slotted table x slots (2 * t) → Slotted table x (set (set slots even p) odd q) (2 * (t + 1))
code_turn table a x slots t s b even odd p q h es eb ee le eo lo ep eq inv =
    let r : 2 * s + b ≡ register x t = ap₂ (λ (u v : ℕ). 2 * u + v) es eb in
    let one : p ≡ entry_bit x (2 * t) = ep ∙ ap (parity_of even_mask) r ∙ sym (entry_even x t) in
    let two : q ≡ entry_bit x (2 * t + 1) = eq ∙ ap (parity_of odd_mask) r ∙ sym (entry_odd x t) in
    let n : 2 * t + 1 + 1 ≡ 2 * (t + 1) = omega arith in
    rw n at (slot_turn table a x (set slots even p) (2 * t + 1) odd q (omega arith) eo lo two (slot_turn table a x slots (2 * t) even p (omega arith) ee le one inv))
