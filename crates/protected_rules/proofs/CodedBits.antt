-- Where the coded bits lie, and that the inverse filter finds the input in them.
-- Assumes nothing.
use mathlib.Core.Bool.{Bool, true, false, cond}
use mathlib.Core.List.{List, [], ◌∷◌}
use mathlib.Core.Path.{◌≡◌, refl, sym, ap, ap₂, ◌∙◌}
use Prim.Native.Nat.{ℕ, zero, suc, ◌+◌, ◌*◌, ◌/◌, ◌%◌, ◌<◌, ◌≤◌}
use native.Mathlib.Nat.{mod-lt, not-suc-le-zero, le_of_suc-le-suc}
use native.Mathlib.Omega.{arith}
use lib.Bits.{bit_xor, xor_lt, xor_self}
use lib.Count.{ones, ones_in}
use lib.Dec.{T, eqb, eqb→eq, lit<}
use lib.ListN.{length, get_or}
use borrow.Author.Tests.{eqb-true}
use Rattle.bits.proofs.Belows.{below_tab}
use Rattle.bits.proofs.Computed.{below}
use Rattle.bits.proofs.Conds.{cond_eq, cond_ne}
use Rattle.bits.proofs.Sums.{sum_zero}
use Rattle.bits.proofs.Tabs.{length_tab, tab_at, is_tab}
use Rattle.bits.specs.Bit.{Bits}
use Rattle.protected_rules.specs.Table.{count, index_of, Admitted}
use Rattle.protected_rules.specs.Convolution.{Input, parity_of, state_after, register, even_mask, odd_mask, entry_bit, convolved, inverse_bit, inverse_state, inverted, coded_apart}

-- ---- the entry of a number that occurs once

count_pos : (k : ℕ) (l : List ℕ) (e : ℕ) → e < length l → get_or l e 0 ≡ k → 0 < count k l
unfolding count
count_pos k [] e h q = absurd (not-suc-le-zero h)
count_pos k (x ∷ l) zero h q = rw (cond_eq {A = ℕ} k x 1 0 (sym q)) (omega arith)
count_pos k (x ∷ l) (suc e) h q = omega (arith, count_pos k l e (le_of_suc-le-suc h) q)

pub index_of_lem : (k : ℕ) (l : List ℕ) (e : ℕ) → e < length l → get_or l e 0 ≡ k → count k l ≡ 1 → index_of k l ≡ e
unfolding count index_of
index_of_lem k [] e h q c = absurd (not-suc-le-zero h)
index_of_lem k (x ∷ l) zero h q c = cond_eq k x 0 (suc (index_of k l)) (sym q)
index_of_lem k (x ∷ l) (suc e) h q c = go (count_pos k l e (le_of_suc-le-suc h) q) (index_of_lem k l e (le_of_suc-le-suc h) q) (eqb k x) c
  where
    go : 0 < count k l → (count k l ≡ 1 → index_of k l ≡ e) → (t : Bool) → cond t 1 0 + count k l ≡ 1 → cond t 0 (suc (index_of k l)) ≡ suc e
    go p ih true c = absurd (omega arith)
    go p ih false c = ap suc (ih (omega arith))

pub index_found : (k : ℕ) (l : List ℕ) → 0 < count k l → (index_of k l < length l) × (get_or l (index_of k l) 0 ≡ k)
unfolding count index_of
index_found k [] h = absurd (omega arith)
index_found k (x ∷ l) h = go (index_found k l) (eqb k x) refl h
  where
    go : (0 < count k l → (index_of k l < length l) × (get_or l (index_of k l) 0 ≡ k)) → (t : Bool) → eqb k x ≡ t → 0 < cond t 1 0 + count k l
        → (cond t 0 (suc (index_of k l)) < length (x ∷ l)) × (get_or (x ∷ l) (cond t 0 (suc (index_of k l))) 0 ≡ k)
    go ih true e h = (omega arith, sym (eqb-true k x e))
    go ih false e h = let f = ih (omega arith) in (omega (arith, f.0), f.1)

-- ---- the coded bits

pub parity_lt : (g r : ℕ) → parity_of g r < 2
unfolding parity_of
parity_lt g r = mod-lt _ (lit< tt)

pub entry_lt : (x : List ℕ) (e : ℕ) → entry_bit x e < 2
unfolding entry_bit
entry_lt x e = parity_lt _ (register x (e / 2))

pub convolved_bits : (table x : List ℕ) → Bits (convolved table x)
unfolding convolved
convolved_bits table x = below_tab 176 (λ k. entry_bit x (index_of k table)) (lit< tt) (λ k h. entry_lt x (index_of k table))

pub length_convolved : (table x : List ℕ) → length (convolved table x) ≡ 176
unfolding convolved
length_convolved table x = length_tab 176 (λ k. entry_bit x (index_of k table))

module _ (table : List ℕ) (a : Admitted table) (x : List ℕ) where
  -- the coded bit at entry e
  pub convolved_at : (e : ℕ) → e < 188 → get_or table e 0 < 176 → get_or (convolved table x) (get_or table e 0) 0 ≡ entry_bit x e
  unfolding convolved
  convolved_at e h l =
      tab_at 176 (λ k. entry_bit x (index_of k table)) (get_or table e 0) l
      ∙ ap (entry_bit x) (index_of_lem (get_or table e 0) table e (omega (arith, a.long)) refl (a.once (get_or table e 0) l))

  -- the parity under the odd mask goes to the odd entry
  pub convolved_odd : (t : ℕ) → t < 94 → get_or (convolved table x) (get_or table (2 * t + 1) 0) 0 ≡ parity_of odd_mask (register x t)
  unfolding entry_bit
  convolved_odd t h =
      let e : (2 * t + 1) / 2 ≡ t = omega arith in
      convolved_at (2 * t + 1) (omega arith) (a.odd t h)
      ∙ ap₂ (λ (g i : ℕ). parity_of g (register x i)) (cond_ne ((2 * t + 1) % 2) 0 even_mask odd_mask (λ q. omega arith)) e

  -- under the even mask to the even entry
  pub convolved_even : (t : ℕ) → t < 94 → get_or table (2 * t) 0 < 176 → get_or (convolved table x) (get_or table (2 * t) 0) 0 ≡ parity_of even_mask (register x t)
  unfolding entry_bit
  convolved_even t h l =
      let e : 2 * t / 2 ≡ t = omega arith in
      convolved_at (2 * t) (omega arith) l
      ∙ ap₂ (λ (g i : ℕ). parity_of g (register x i)) (cond_eq (2 * t % 2) 0 even_mask odd_mask (omega arith)) e

-- ---- the inverse filter

filters : ℕ → Bool
filters v = eqb (inverse_bit (v / 2) (parity_of odd_mask v)) (v % 2)

all_filter : (v : ℕ) → v < 512 → T (filters v)
unfolding filters inverse_bit parity_of ones ones_in
all_filter = below 512 filters tt

pub inverse_bit_lem : (s b : ℕ) → s < 256 → b < 2 → inverse_bit s (parity_of odd_mask (2 * s + b)) ≡ b
unfolding filters
inverse_bit_lem s b hs hb =
    let h : (2 * s + b) / 2 ≡ s = omega arith in
    let m : (2 * s + b) % 2 ≡ b = omega arith in
    ap (λ (v : ℕ). inverse_bit v (parity_of odd_mask (2 * s + b))) (sym h) ∙ eqb→eq _ _ (all_filter (2 * s + b) (omega arith)) ∙ m

pub state_lt : (x : List ℕ) (t : ℕ) → state_after x t < 256
unfolding state_after
state_lt x zero = lit< tt
state_lt x (suc t) = mod-lt _ (lit< tt)

pub inverse_bit_lt : (s a : ℕ) → a < 2 → inverse_bit s a < 2
unfolding inverse_bit
inverse_bit_lt s a h = xor_lt 1 a (parity_of odd_mask (2 * s)) h (parity_lt odd_mask (2 * s))

pub inverted_input : (table received : List ℕ) → Bits received → Input (inverted table received)
unfolding inverted
inverted_input table received b =
    record {
      long = length_tab 94 (λ t. inverse_bit (inverse_state table received t) (get_or received (get_or table (2 * t + 1) 0) 0));
      bits = below_tab 94 (λ t. inverse_bit (inverse_state table received t) (get_or received (get_or table (2 * t + 1) 0) 0)) (lit< tt)
          (λ t h. inverse_bit_lt (inverse_state table received t) (get_or received (get_or table (2 * t + 1) 0) 0) (b.at (get_or table (2 * t + 1) 0)));
    }

module _ (table : List ℕ) (a : Admitted table) (x : List ℕ) (i : Input x) where
  found_bit : (t : ℕ) → t < 94 → inverse_bit (state_after x t) (get_or (convolved table x) (get_or table (2 * t + 1) 0) 0) ≡ get_or x t 0
  found_bit t h = ap (inverse_bit (state_after x t)) (convolved_odd table a x t h) ∙ inverse_bit_lem (state_after x t) (get_or x t 0) (state_lt x t) (i.bits.at t)

  found_state : (t : ℕ) → t ≤ 94 → inverse_state table (convolved table x) t ≡ state_after x t
  unfolding inverse_state state_after
  found_state zero h = refl
  found_state (suc t) h =
      ap (λ (s : ℕ). (2 * s + inverse_bit s (get_or (convolved table x) (get_or table (2 * t + 1) 0) 0)) % 256) (found_state t (omega arith))
      ∙ ap (λ (b : ℕ). (2 * state_after x t + b) % 256) (found_bit t (omega arith))

  -- what was convolved is found again
  pub inverted_convolved : inverted table (convolved table x) ≡ x
  unfolding inverted
  inverted_convolved =
      sym (is_tab x 94 (λ t. inverse_bit (inverse_state table (convolved table x) t) (get_or (convolved table x) (get_or table (2 * t + 1) 0) 0)) i.long
      (λ t h. sym (ap (λ (s : ℕ). inverse_bit s (get_or (convolved table x) (get_or table (2 * t + 1) 0) 0)) (found_state t (omega arith)) ∙ found_bit t h)))

-- ---- distance

pub apart_self : (c : List ℕ) → coded_apart c c ≡ 0
unfolding coded_apart
apart_self c = sum_zero 176 (λ k. bit_xor (get_or c k 0) (get_or c k 0)) (λ k h. xor_self (get_or c k 0))

-- 94 bits are an input
pub input_of_bits : (x : List ℕ) → Bits x → length x ≡ 94 → Input x
input_of_bits x b l = record { long = l; bits = b }
