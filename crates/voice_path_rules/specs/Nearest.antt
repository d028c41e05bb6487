-- Document 02, A9: "For every admitted table and all received bits, the 94 bits the path search finds end in eight zeros, and no other 94 bits ending
-- in eight zeros encode nearer to what was received. The same for the soft search, with nearness the sum of the reliabilities of the disagreeing
-- bits." Assumes nothing.
use Rattle.std.specs.Prelude.{List, ◌≡◌, ℕ, ◌+◌, ◌<◌, ◌≤◌, get_or}
use Rattle.bits.specs.Bit.{sum, Bits, Bytes}
use Rattle.protected_rules.specs.Convolution.{Input, convolved, coded_apart}
use Rattle.protected_rules.specs.Table.{Admitted}
use Rattle.voice_path_rules.specs.Path.{disagree, searched, searched_by}

-- 94 bits, the last eight of them zero
pub record Ended (x : List ℕ) : Type 0 where
  pub input : Input x
  pub zeros : (k : ℕ) → k < 8 → get_or x (86 + k) 0 ≡ 0

-- how far coded bits c lie from received bits d: the sum of the weights of those that disagree. A punctured place (255 in the table) has no coded
-- bit, so it counts for nobody
unfoldable pub weight_apart : List ℕ → List ℕ → List ℕ → ℕ
weight_apart weights c d = sum 176 (λ k. disagree (get_or weights k 0) (get_or c k 0) (get_or d k 0))

-- x is the nearest of all 94 bits that end in eight zeros, where `away y` says how far y lies
pub record Nearest (away : List ℕ → ℕ) (x : List ℕ) : Type 0 where
  pub ended : Ended x
  pub least : (y : List ℕ) → Ended y → away x ≤ away y
  -- "at equal cost the prior state below 128 wins": of equally near ones x has the zero at the last place in which they differ. Where all bits behind
  -- k agree, bit k of x is not the greater
  pub tie : (y : List ℕ) → Ended y → away y ≡ away x → (k : ℕ) → ((j : ℕ) → k < j → get_or y j 0 ≡ get_or x j 0) → get_or x k 0 ≤ get_or y k 0

pub record NearestPath : Type 0 where
  -- the weighted search, for all weights
  pub weighted : (table received weights : List ℕ) → Admitted table → Bytes weights
      → Nearest (λ x. weight_apart weights (convolved table x) received) (searched_by table received weights)
  -- the hard search, which is the one with all weights 1: near is then the number of coded bits that differ
  pub hard : (table received : List ℕ) → Admitted table → Bits received
      → Nearest (λ x. coded_apart (convolved table x) received) (searched table received)
  -- no two are both nearest in this sense: what is said here determines what the search finds, however it goes about it
  pub only : (away : List ℕ → ℕ) (x y : List ℕ) → Nearest away x → Nearest away y → x ≡ y
