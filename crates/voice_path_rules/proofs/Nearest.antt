-- The search finds the nearest bits, by one argument over the weights, and there is only one nearest.
-- Assumes nothing.
use mathlib.Core.List.{List}
use mathlib.Core.Path.{◌≡◌, refl, sym, ap, subst, ◌∙◌}
use Prim.Native.Nat.{ℕ, zero, suc, ◌+◌, ◌<◌, ◌≤◌}
use native.Mathlib.Omega.{arith}
use lib.Bits.{bit_xor}
use lib.ListN.{get_or, replicate, get_or-replicate}
use lib.Seq.{ext_get_or}
use Rattle.bits.specs.Bit.{Bits, Bytes}
use Rattle.bits.proofs.BelowSets.{below_replicate}
use Rattle.bits.proofs.Sums.{sum_ext}
use Rattle.bits.proofs.Tabs.{past_end}
use Rattle.protected_rules.specs.Convolution.{convolved, coded_apart}
use Rattle.protected_rules.specs.Table.{Admitted}
use Rattle.protected_rules.proofs.CodedBits.{convolved_bits}
use Rattle.voice_path_rules.specs.Path.{disagree, path, cost_of, searched_by, searched}
use Rattle.voice_path_rules.specs.Nearest.{weight_apart, Nearest, NearestPath}
use Rattle.voice_path_rules.proofs.Cheapest.{spent, found_ended, found_least, found_tie}
use Rattle.voice_path_rules.proofs.Places.{cost_small, cost_is_distance}

-- ---- the weighted search

module _ (table received weights : List ℕ) (a : Admitted table) (b : Bytes weights) where
  distance : (x : List ℕ) → spent (cost_of table received weights) x 94 ≡ weight_apart weights (convolved table x) received
  unfolding spent
  distance x = cost_is_distance table received weights a x

  weighted : Nearest (λ x. weight_apart weights (convolved table x) received) (searched_by table received weights)
  unfolding searched_by
  weighted =
      let d : ℕ → ℕ → ℕ = cost_of table received weights in
      let small : (t r : ℕ) → d t r ≤ 510 = cost_small table received weights b in
      record {
        ended = found_ended d small;
        least = λ y h. omega (arith, found_least d small y h, distance (path d 94 0), distance y);
        tie = λ y h e. found_tie d small y h (distance y ∙ e ∙ sym (distance (path d 94 0)));
      }

-- ---- the hard search: with all weights 1 the distance is the number of coded bits that differ

disagree_one : (x y : ℕ) → x < 2 → y < 2 → disagree 1 x y ≡ bit_xor x y
disagree_one zero zero h k = refl
disagree_one zero (suc zero) h k = refl
disagree_one (suc zero) zero h k = refl
disagree_one (suc zero) (suc zero) h k = refl
disagree_one zero (suc (suc y)) h k = absurd (omega arith)
disagree_one (suc zero) (suc (suc y)) h k = absurd (omega arith)
disagree_one (suc (suc x)) y h k = absurd (omega arith)

ones_apart : (c d : List ℕ) → Bits c → Bits d → weight_apart (replicate 176 1) c d ≡ coded_apart c d
unfolding weight_apart coded_apart
ones_apart c d bc bd =
    sum_ext 176 _ _ (λ k l.
    ap (λ (w : ℕ). disagree w (get_or c k 0) (get_or d k 0)) (get_or-replicate 176 k 1 0 l) ∙ disagree_one (get_or c k 0) (get_or d k 0) (bc.at k) (bd.at k))

hard : (table received : List ℕ) → Admitted table → Bits received → Nearest (λ x. coded_apart (convolved table x) received) (searched table received)
unfolding searched
hard table received a b =
    subst (λ (away : List ℕ → ℕ). Nearest away (searched_by table received (replicate 176 1)))
    (λ i x. ones_apart (convolved table x) received (convolved_bits table x) b i)
    (weighted table received (replicate 176 1) a (below_replicate 176 1 (omega arith) (omega arith)))

-- ---- there is only one

module _ (away : List ℕ → ℕ) (x y : List ℕ) (nx : Nearest away x) (ny : Nearest away y) where
  as_near : away x ≡ away y
  as_near = omega (arith, nx.least y ny.ended, ny.least x nx.ended)

  -- bit k agrees where all bits behind it do, and behind the last there are none
  agree : (n k : ℕ) → 94 ≤ n + k → get_or x k 0 ≡ get_or y k 0
  agree zero k h = past_end x k (omega (arith, nx.ended.input.long)) ∙ sym (past_end y k (omega (arith, ny.ended.input.long)))
  agree (suc n) k h =
      omega (
        arith,
        nx.tie y ny.ended (sym as_near) k (λ j l. sym (agree n j (omega arith))),
        ny.tie x nx.ended as_near k (λ j l. agree n j (omega arith)),
      )

  only : x ≡ y
  only = ext_get_or 0 x y (nx.ended.input.long ∙ sym ny.ended.input.long) (λ k h. agree 94 k (omega arith))

pub nearest_path : NearestPath
nearest_path = record { weighted = weighted; hard = hard; only = only }
