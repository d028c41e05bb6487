-- Document 01: "Path search keeps 94 rows of 32 survivor bytes, one bit per state; at equal cost the prior state below 128 wins; it ends in
-- state 0." The search over any cost of the nine-bit registers, then the cost that the table and the received bits give them.
-- From state p the bit u leads through the register 2 p + u into the state (2 p + u) % 256. So the registers that end in state s are s, from
-- the prior state s / 2, and s + 256, from the prior state s / 2 + 128.
-- Assumes nothing.
use Rattle.std.specs.Prelude.{Bool, cond, List, [], ◌∷◌, ◌++◌, ℕ, zero, suc, ◌+◌, ◌*◌, ◌/◌, ◌%◌, min, ltb, eqb, get_or, replicate}
use Rattle.protected_rules.specs.Convolution.{parity_of, even_mask, odd_mask}
use Rattle.voice_path_rules.specs.declared.Seen.{Seen}

-- ---- one step, over the costs c of the states and e of the registers

-- the cheaper of the two ways into s
unfoldable pub arrive : (ℕ → ℕ) → (ℕ → ℕ) → ℕ → ℕ
arrive c e s = min (c (s / 2) + e s) (c (s / 2 + 128) + e (s + 256))

-- whether that is the way from the prior state of 128 or more; at equal cost the prior state below 128 wins
abbrev pub higher : (ℕ → ℕ) → (ℕ → ℕ) → ℕ → Bool
higher c e s = ltb (c (s / 2 + 128) + e (s + 256)) (c (s / 2) + e s)

-- the same as the bit that a row keeps
unfoldable pub survivor : (ℕ → ℕ) → (ℕ → ℕ) → ℕ → ℕ
survivor c e s = cond (higher c e s) 1 0

-- ---- the search, over the cost d t r of the register r at step t

-- more than any path from state 0 can cost: what it costs to start elsewhere
abbrev pub far : ℕ
far = 65536

unfoldable pub start : ℕ → ℕ
start zero = 0
start (suc s) = far

-- the cost of the cheapest path of t steps that ends in s
unfoldable pub best : (ℕ → ℕ → ℕ) → ℕ → ℕ → ℕ
best d zero s = start s
best d (suc t) s = arrive (best d t) (d t) s

-- bit s of row t of the survivors
abbrev pub survivor_at : (ℕ → ℕ → ℕ) → ℕ → ℕ → ℕ
survivor_at d t s = survivor (best d t) (d t) s

-- the bits, first one first, of the t steps that end in s, where bit s of row t of h says from which prior state the step comes
unfoldable pub walk : (ℕ → ℕ → ℕ) → ℕ → ℕ → List ℕ
walk h zero s = []
walk h (suc t) s = walk h t (s / 2 + 128 * h t s) ++ (s % 2 ∷ [])

-- the bits of the cheapest path of t steps that ends in s
unfoldable pub path : (ℕ → ℕ → ℕ) → ℕ → ℕ → List ℕ
path d t s = walk (survivor_at d) t s

-- ---- what a register costs

-- the weight w where two bits disagree, and nothing where they agree
abbrev pub disagree : ℕ → ℕ → ℕ → ℕ
disagree w x y = cond (eqb x y) 0 w

-- a register against what a step has seen: the weight of each of its two bits that disagrees
unfoldable pub weigh : Seen → ℕ → ℕ
weigh o r = disagree o.wa (parity_of odd_mask r) o.a + disagree o.wb (parity_of even_mask r) o.b

-- what step t has seen: the bit at the odd entry, and the one at the even entry, unless that is 255
unfoldable pub seen_at : List ℕ → List ℕ → List ℕ → ℕ → Seen
seen_at table received weights t =
    cond (eqb (get_or table (2 * t) 0) 255)
    (record { a = get_or received (get_or table (2 * t + 1) 0) 0; wa = get_or weights (get_or table (2 * t + 1) 0) 0; b = 0; wb = 0 })
    (record {
      a = get_or received (get_or table (2 * t + 1) 0) 0;
      wa = get_or weights (get_or table (2 * t + 1) 0) 0;
      b = get_or received (get_or table (2 * t) 0) 0;
      wb = get_or weights (get_or table (2 * t) 0) 0;
    })

unfoldable pub cost_of : List ℕ → List ℕ → List ℕ → ℕ → ℕ → ℕ
cost_of table received weights t r = weigh (seen_at table received weights t) r

-- ---- what the search finds

-- the weighted search: the 94 bits of the cheapest path that ends in state 0
unfoldable pub searched_by : List ℕ → List ℕ → List ℕ → List ℕ
searched_by table received weights = path (cost_of table received weights) 94 0

-- the hard search: each coded bit has the weight 1
unfoldable pub searched : List ℕ → List ℕ → List ℕ
searched table received = searched_by table received (replicate 176 1)
