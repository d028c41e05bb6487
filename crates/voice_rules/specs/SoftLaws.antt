-- Document 01, soft decoding: "the 0, 2, 4, 6 least reliable tail bytes erased (a byte counts as its least reliable bit; equal: earlier byte first)".
-- What the places that specs/Soft.antt picks one after the other are, all together.
-- Assumes nothing.
use Rattle.std.specs.Prelude.{List, [], ◌∷◌, map, ◌≡◌, ℕ, ◌+◌, ◌*◌, ◌≤◌, ◌<◌, get_or, length, drop}
use Rattle.bits.specs.Bit.{Bytes}
use Rattle.tail_rules.specs.Repair.{repair_of}
use Rattle.voice_rules.specs.Soft.{reliability, tail_keys, least_places, soft_repairs}

-- what tail byte b counts as
abbrev pub counted : List ℕ → ℕ → ℕ
counted rs b = get_or (tail_keys rs) b 0

-- the reliability of bit j of tail byte b
abbrev pub of_bit : List ℕ → ℕ → ℕ → ℕ
of_bit rs b j = reliability rs (8 * (28 + b) + j)

-- place i of the n least reliable ones
abbrev pub erased : List ℕ → ℕ → ℕ → ℕ
erased rs n i = get_or (least_places (tail_keys rs) n) i 0

-- place p comes before place q by these keys: its key is less, or equal and p is the earlier
abbrev pub Before : List ℕ → ℕ → ℕ → Type 0
Before keys p q = (get_or keys p 0 ≤ get_or keys q 0) × (get_or keys p 0 ≡ get_or keys q 0 → p < q)

pub record SoftLaws : Type 0 where
  -- a byte counts as one of its eight bits, and none of them is less reliable
  pub counts_as_one : (rs : List ℕ) (b : ℕ) → b < 14 → (j : ℕ) × ((j < 8) × (counted rs b ≡ of_bit rs b j))
  pub counts_as_least : (rs : List ℕ) (b j : ℕ) → b < 14 → j < 8 → counted rs b ≤ of_bit rs b j
  -- n least reliable places are n,
  pub so_many : (rs : List ℕ) (n : ℕ) → length (least_places (tail_keys rs) n) ≡ n
  -- all in the tail,
  pub in_tail : (rs : List ℕ) → Bytes rs → (n i : ℕ) → n ≤ 14 → i < n → erased rs n i < 14
  -- none twice,
  pub distinct : (rs : List ℕ) → Bytes rs → (n i j : ℕ) → n ≤ 14 → i < j → j < n → erased rs n i ≡ erased rs n j → ⊥
  -- one after the other in this order,
  pub in_order : (rs : List ℕ) → Bytes rs → (n i j : ℕ) → n ≤ 14 → i < j → j < n → Before (tail_keys rs) (erased rs n i) (erased rs n j)
  -- and all before each place that is not among them
  pub none_before : (rs : List ℕ) → Bytes rs → (n i p : ℕ) → n ≤ 14 → i < n → p < 14 → ((j : ℕ) → j < n → erased rs n j ≡ p → ⊥)
      → Before (tail_keys rs) (erased rs n i) p
  -- the repairs are those with the 0, 2, 4, 6 least reliable ones erased
  pub numbers : (word rs : List ℕ) → soft_repairs word rs ≡ map (λ n. repair_of (least_places (tail_keys rs) n) (drop 28 word)) (0 ∷ 2 ∷ 4 ∷ 6 ∷ [])
