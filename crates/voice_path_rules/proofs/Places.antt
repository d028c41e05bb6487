-- What a path costs is how far its coded bits lie from the received ones, for every admitted table: each coded bit has one entry, and one step looks at it.
-- Assumes nothing.
use mathlib.Core.Bool.{cond}
use mathlib.Core.List.{List, [], ◌∷◌}
use mathlib.Core.Logic.{⊎_elim}
use mathlib.Core.Path.{◌≡◌, refl, sym, ap, ap₂, ◌∙◌}
use Prim.Native.Nat.{ℕ, ◌+◌, ◌*◌, ◌<◌, ◌≤◌}
use native.Mathlib.Decide.{dec_lt}
use native.Mathlib.Nat.{add-le-add, mul-zero, mul-one, mul-add}
use native.Mathlib.Omega.{arith}
use borrow.Author.Tests.{ne_eqb}
use lib.Dec.{eqb, ltb}
use lib.ListN.{length, get_or}
use Rattle.bits.specs.Bit.{sum, Bytes}
use Rattle.bits.proofs.Conds.{cond_both, cond_lt, cond_ge, cond_eq, cond_ne}
use Rattle.bits.proofs.Sums.{sum_ext, sum_zero, sum_one, sum_plus, sum_pairs}
use Rattle.protected_rules.specs.Convolution.{parity_of, register, even_mask, odd_mask, convolved}
use Rattle.protected_rules.specs.Table.{Admitted, count}
use Rattle.protected_rules.proofs.CodedBits.{convolved_odd, convolved_even}
use Rattle.voice_path_rules.specs.declared.Seen.{Seen}
use Rattle.voice_path_rules.specs.Path.{disagree, weigh, seen_at, cost_of}
use Rattle.voice_path_rules.specs.Nearest.{weight_apart}

-- ---- weights

pub disagree_le : (w x y : ℕ) → disagree w x y ≤ w
disagree_le w x y = cond_both (λ (v : ℕ). v ≤ w) (eqb x y) 0 w (omega arith) (omega arith)

pub weigh_le : (o : Seen) (r : ℕ) → weigh o r ≤ o.wa + o.wb
unfolding weigh
weigh_le o r = add-le-add (disagree_le o.wa _ o.a) (disagree_le o.wb _ o.b)

pub cost_small : (table received weights : List ℕ) → Bytes weights → (t r : ℕ) → cost_of table received weights t r ≤ 510
unfolding cost_of seen_at
cost_small table received weights b t r =
    cond_both (λ (o : Seen). weigh o r ≤ 510) (eqb (get_or table (2 * t) 0) 255) _ _
    (bytes_le _ r (omega (arith, b.at (get_or table (2 * t + 1) 0))) (omega arith))
    (bytes_le _ r (omega (arith, b.at (get_or table (2 * t + 1) 0))) (omega (arith, b.at (get_or table (2 * t) 0))))
  where
    bytes_le : (o : Seen) (r : ℕ) → o.wa ≤ 255 → o.wb ≤ 255 → weigh o r ≤ 510
    bytes_le o r ha hb = omega (arith, weigh_le o r)

-- ---- a sum over the 176 places is one over a table's entries, each place being one entry

module _ (f : ℕ → ℕ) where
  -- what an entry adds: nothing where it is no place
  unfoldable entered : ℕ → ℕ
  entered e = cond (ltb e 176) (f e) 0

  entered_once : (e : ℕ) → sum 176 (λ k. f k * cond (eqb k e) 1 0) ≡ entered e
  unfolding entered
  entered_once e = go (dec_lt e 176)
    where
      other : (k : ℕ) → (k ≡ e → ⊥) → f k * cond (eqb k e) 1 0 ≡ 0
      other k o = ap (λ (n : ℕ). f k * n) (cond_ne {A = ℕ} k e 1 0 o) ∙ mul-zero (f k)

      go : Dec (e < 176) → sum 176 (λ k. f k * cond (eqb k e) 1 0) ≡ cond (ltb e 176) (f e) 0
      go (yes h) =
          sum_one 176 (λ k. f k * cond (eqb k e) 1 0) e h other
          ∙ ap (λ (n : ℕ). f e * n) (cond_eq {A = ℕ} e e 1 0 refl)
          ∙ mul-one (f e)
          ∙ sym (cond_lt e 176 (f e) 0 h)
      go (no h) =
          sum_zero 176 (λ k. f k * cond (eqb k e) 1 0) (λ k l. other k (λ q. omega (arith, h)))
          ∙ sym (cond_ge e 176 (f e) 0 (omega (arith, h)))

  counted : (l : List ℕ) → sum (length l) (λ i. entered (get_or l i 0)) ≡ sum 176 (λ k. f k * count k l)
  unfolding sum count
  counted [] = sym (sum_zero 176 (λ k. f k * 0) (λ k h. mul-zero (f k)))
  counted (e ∷ l) =
      ap₂ ◌+◌ (sym (entered_once e)) (counted l)
      ∙ sym (sum_plus 176 (λ k. f k * cond (eqb k e) 1 0) (λ k. f k * count k l))
      ∙ sum_ext 176 _ _ (λ k h. sym (mul-add (f k) (cond (eqb k e) 1 0) (count k l)))

  by_entries : (table : List ℕ) → Admitted table
      → sum 94 (λ t. entered (get_or table (2 * t) 0) + entered (get_or table (2 * t + 1) 0)) ≡ sum 176 f
  by_entries table a =
      sum_plus 94 (λ t. entered (get_or table (2 * t) 0)) (λ t. entered (get_or table (2 * t + 1) 0))
      ∙ sym (sum_pairs 94 (λ i. entered (get_or table i 0)))
      ∙ (rw a.long at (counted table))
      ∙ sum_ext 176 _ _ (λ k h. ap (λ (n : ℕ). f k * n) (a.once k h) ∙ mul-one (f k))

-- ---- what the steps look at

module _ (table received weights : List ℕ) (a : Admitted table) (x : List ℕ) where
  -- what coded bit k adds
  wrong : ℕ → ℕ
  wrong k = disagree (get_or weights k 0) (get_or (convolved table x) k 0) (get_or received k 0)

  -- the parity p of the register is the coded bit at the entry e
  looked_at : (e p : ℕ) → e < 176 → get_or (convolved table x) e 0 ≡ p → disagree (get_or weights e 0) p (get_or received e 0) ≡ entered wrong e
  unfolding wrong entered
  looked_at e p h q = sym (cond_lt e 176 (wrong e) 0 h ∙ ap (λ (c : ℕ). disagree (get_or weights e 0) c (get_or received e 0)) q)

  step_cost : (t : ℕ) → t < 94
      → cost_of table received weights t (register x t) ≡ entered wrong (get_or table (2 * t) 0) + entered wrong (get_or table (2 * t + 1) 0)
  unfolding cost_of weigh seen_at entered
  step_cost t h = ⊎_elim full punctured (a.even t h)
    where
      odd : disagree (get_or weights (get_or table (2 * t + 1) 0) 0) (parity_of odd_mask (register x t)) (get_or received (get_or table (2 * t + 1) 0) 0)
          ≡ entered wrong (get_or table (2 * t + 1) 0)
      odd = looked_at (get_or table (2 * t + 1) 0) (parity_of odd_mask (register x t)) (a.odd t h) (convolved_odd table a x t h)

      full : get_or table (2 * t) 0 < 176
          → weigh (seen_at table received weights t) (register x t) ≡ entered wrong (get_or table (2 * t) 0) + entered wrong (get_or table (2 * t + 1) 0)
      full l =
          rw (ne_eqb (get_or table (2 * t) 0) 255 (λ e. omega arith))
          (omega (arith, odd, looked_at (get_or table (2 * t) 0) (parity_of even_mask (register x t)) l (convolved_even table a x t h l)))

      punctured : get_or table (2 * t) 0 ≡ 255
          → weigh (seen_at table received weights t) (register x t) ≡ entered wrong (get_or table (2 * t) 0) + entered wrong (get_or table (2 * t + 1) 0)
      punctured e = rw e (omega (arith, odd, disagree_le 0 (parity_of even_mask (register x t)) 0))

  -- what the 94 bits cost is how far their coded bits lie from the received ones
  pub cost_is_distance : sum 94 (λ t. cost_of table received weights t (register x t)) ≡ weight_apart weights (convolved table x) received
  unfolding weight_apart wrong
  cost_is_distance = sum_ext 94 _ _ step_cost ∙ by_entries wrong table a
