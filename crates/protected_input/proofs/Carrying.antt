-- The input of a payload, made in two loops: its bits are put in their places, and then the checksum's.
-- Assumes nothing.
use mathlib.Core.Bool.{cond}
use mathlib.Core.List.{List}
use mathlib.Core.Path.{◌≡◌, refl, sym, ap, ◌∙◌}
use Prim.Native.Nat.{ℕ, ◌+◌, ◌-◌, ◌<◌, ◌≤◌}
use native.Mathlib.Decide.{ℕ_discrete, dec_lt}
use native.Mathlib.Omega.{arith}
use lib.Dec.{ltb}
use lib.ListN.{length, get_or, set, replicate, length-set, get_or-replicate}
use lib.Seq.{get_or-set_same, get_or-set_other}
use Rattle.bits.specs.Bit.{digit, bit_lo}
use Rattle.bits.proofs.Computed.{same_below}
use Rattle.bits.proofs.Conds.{cond_lt, cond_ge}
use Rattle.bits.proofs.Tabs.{past_end, is_tab}
use Rattle.protected_rules.specs.Checksum.{checksum, positions, position, input_bit, input_of, checksum_for}
use Rattle.protected_rules.specs.Table.{index_of}
use Rattle.protected_rules.proofs.InputBits.{crc8_ext, index_position, index_first}
use Rattle.protected_input.specs.Carrying.{carried_bit, Carried}

-- ---- the payload's bits

zeros_at : (k : ℕ) → get_or (replicate {A = ℕ} 94 0) k 0 ≡ 0
zeros_at k = go (dec_lt k 94)
  where
    go : Dec (k < 94) → get_or (replicate {A = ℕ} 94 0) k 0 ≡ 0
    go (yes l) = get_or-replicate 94 k 0 0 l
    go (no l) = let e : length (replicate {A = ℕ} 94 0) ≡ 94 = refl in past_end (replicate {A = ℕ} 94 0) k (omega (arith, e, l))

pub carried_none : (p : List ℕ) → Carried p (replicate {A = ℕ} 94 0) 0
carried_none p = record { long = refl; at = λ k. zeros_at k ∙ sym (go k (dec_lt k 4)) }
  where
    go : (k : ℕ) → Dec (k < 4) → carried_bit p 0 k ≡ 0
    go k (yes l) = cond_lt k 4 _ _ l
    go k (no l) = cond_ge k 4 _ _ (omega (arith, l)) ∙ cond_ge k (4 + 0) _ _ (omega (arith, l))

module _ (p x : List ℕ) (n v : ℕ) (c : Carried p x n) (h : n < 78) (e : v ≡ bit_lo p n) where
  same_bit : (k : ℕ) → (k ≡ 4 + n → ⊥) → Dec (k < 4 + n) → cond (ltb k (4 + n)) (bit_lo p (k - 4)) 0 ≡ cond (ltb k (4 + (n + 1))) (bit_lo p (k - 4)) 0
  same_bit k o (yes l) = cond_lt k (4 + n) _ _ l ∙ sym (cond_lt k (4 + (n + 1)) _ _ (omega arith))
  same_bit k o (no l) =
      let g : 4 + (n + 1) ≤ k = beyond (ℕ_discrete k (4 + n)) in cond_ge k (4 + n) _ _ (omega arith) ∙ sym (cond_ge k (4 + (n + 1)) _ _ g)
    where
      beyond : Dec (k ≡ 4 + n) → 4 + (n + 1) ≤ k
      beyond (yes q) = absurd (o q)
      beyond (no q) = omega (arith, l, q)

  stored : (k : ℕ) → Dec (k ≡ 4 + n) → get_or (set x (4 + n) v) k 0 ≡ carried_bit p (n + 1) k
  stored k (yes q) =
      let d : k - 4 ≡ n = omega arith in
      ap (λ (i : ℕ). get_or (set x (4 + n) v) i 0) q
      ∙ get_or-set_same x (4 + n) v 0 (omega (arith, c.long)) ∙ e ∙ sym (ap (bit_lo p) d)
      ∙ sym (cond_ge k 4 _ _ (omega arith) ∙ cond_lt k (4 + (n + 1)) _ _ (omega arith))
  stored k (no q) =
      get_or-set_other x (4 + n) k v 0 q ∙ c.at k ∙ ap (λ (y : ℕ). cond (ltb k 4) 0 y) (same_bit k q (dec_lt k (4 + n)))

  pub carried_more : Carried p (set x (4 + n) v) (n + 1)
  carried_more = record { long = length-set x (4 + n) v ∙ c.long; at = λ k. stored k (ℕ_discrete k (4 + n)) }

module _ (p x : List ℕ) (c : Carried p x 78) where
  pub carried_sum : checksum_for x ≡ checksum p
  carried_sum =
      crc8_ext (λ i. get_or x (4 + i) 0) (bit_lo p) (λ i h.
      let d : 4 + i - 4 ≡ i = omega arith in
      c.at (4 + i) ∙ cond_ge (4 + i) 4 _ _ (omega arith) ∙ cond_lt (4 + i) 82 _ _ (omega arith) ∙ ap (bit_lo p) d)

-- ---- the checksum's bits

position_back : (k : ℕ) → k < 94 → index_of k positions < 8 → position (index_of k positions) ≡ k
unfolding index_of
position_back k h l =
    sym (cond_lt (index_of k positions) 8 (position (index_of k positions)) k l)
    ∙ same_below (λ k. cond (ltb (index_of k positions) 8) (position (index_of k positions)) k) (λ k. k) 94 tt k h

-- input bit k with the first n bits of the checksum put in
abbrev summed_bit : List ℕ → ℕ → ℕ → ℕ
summed_bit p n k = cond (ltb (index_of k positions) n) (digit (checksum p) (index_of k positions)) (carried_bit p 78 k)

pub record Summed (p x : List ℕ) (n : ℕ) : Type 0 where
  pub within : n ≤ 8
  pub long : length x ≡ 94
  pub at : (k : ℕ) → k < 94 → get_or x k 0 ≡ summed_bit p n k

pub summed_none : (p x : List ℕ) → Carried p x 78 → Summed p x 0
summed_none p x c =
    record {
      within = omega arith;
      long = c.long;
      at = λ k h. c.at k ∙ sym (cond_ge (index_of k positions) 0 (digit (checksum p) (index_of k positions)) (carried_bit p 78 k) (omega arith));
    }

module _ (p x : List ℕ) (n q v : ℕ) (s : Summed p x n) (h : n < 8) (eq : q ≡ position n) (lq : q < 94) (ev : v ≡ digit (checksum p) n) where
  same_sum : (k : ℕ) → (index_of k positions ≡ n → ⊥) → Dec (index_of k positions < n) → summed_bit p n k ≡ summed_bit p (n + 1) k
  same_sum k o (yes l) = cond_lt (index_of k positions) n _ _ l ∙ sym (cond_lt (index_of k positions) (n + 1) _ _ (omega arith))
  same_sum k o (no l) =
      let g : n + 1 ≤ index_of k positions = beyond (ℕ_discrete (index_of k positions) n) in
      cond_ge (index_of k positions) n _ _ (omega arith) ∙ sym (cond_ge (index_of k positions) (n + 1) _ _ g)
    where
      beyond : Dec (index_of k positions ≡ n) → n + 1 ≤ index_of k positions
      beyond (yes q) = absurd (o q)
      beyond (no q) = omega (arith, l, q)

  put : (k : ℕ) → k < 94 → Dec (k ≡ q) → get_or (set x q v) k 0 ≡ summed_bit p (n + 1) k
  put k l (yes e) =
      let i : index_of k positions ≡ n = ap (λ (j : ℕ). index_of j positions) (e ∙ eq) ∙ index_position n h in
      ap (λ (j : ℕ). get_or (set x q v) j 0) e ∙ get_or-set_same x q v 0 (omega (arith, s.long)) ∙ ev ∙ ap (digit (checksum p)) (sym i)
      ∙ sym (cond_lt (index_of k positions) (n + 1) (digit (checksum p) (index_of k positions)) (carried_bit p 78 k) (omega (arith, i)))
  put k l (no e) =
      get_or-set_other x q k v 0 e ∙ s.at k l
      ∙ same_sum k (λ i. e (sym (position_back k l (omega (arith, i))) ∙ ap position i ∙ sym eq)) (dec_lt (index_of k positions) n)

  pub summed_more : Summed p (set x q v) (n + 1)
  summed_more = record { within = omega arith; long = length-set x q v ∙ s.long; at = λ k l. put k l (ℕ_discrete k q) }

pub summed_all : (p x : List ℕ) (n : ℕ) → 8 ≤ n → Summed p x n → x ≡ input_of p
unfolding input_of input_bit
summed_all p x n h s =
    is_tab x 94 (input_bit p) s.long (λ k l. s.at k l ∙ ap (λ (m : ℕ). summed_bit p m k) (the_eight s.within) ∙ go k (dec_lt (index_of k positions) 8))
  where
    the_eight : n ≤ 8 → n ≡ 8
    the_eight w = omega arith

    four : (k : ℕ) → (index_of k positions < 8 → ⊥) → Dec (k < 4) → 4 ≤ k
    four k o (yes l) = absurd (o (omega (arith, index_first k l, l)))
    four k o (no l) = omega (arith, l)

    go : (k : ℕ) → Dec (index_of k positions < 8) → summed_bit p 8 k ≡ input_bit p k
    go k (yes l) = cond_lt (index_of k positions) 8 _ _ l ∙ sym (cond_lt (index_of k positions) 8 _ _ l)
    go k (no l) =
        cond_ge (index_of k positions) 8 _ _ (omega (arith, l)) ∙ cond_ge k 4 _ _ (four k l (dec_lt k 4))
        ∙ sym (cond_ge (index_of k positions) 8 _ _ (omega (arith, l)))
