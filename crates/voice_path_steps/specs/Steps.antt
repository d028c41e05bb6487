-- What the code's parts hand to each other.
-- Assumes nothing.
use Rattle.std.specs.Prelude.{cond, List, ◌≡◌, ℕ, ◌+◌, ◌*◌, ◌<◌, ◌≤◌, min, ltb, get_or}
use Rattle.protected_rules.specs.Convolution.{parity_of, even_mask, odd_mask}
use Rattle.voice_path_rules.specs.Path.{weigh, arrive, survivor}
use Rattle.voice_path_rules.specs.declared.Seen.{Seen}
use Rattle.voice_path_steps.specs.declared.Stepped.{Stepped}
use Rattle.voice_path_steps.specs.declared.Pair.{Pair}

-- two bits with weights that fit a byte
pub record Weighed (o : Seen) : Type 0 where
  pub a : o.a < 2
  pub b : o.b < 2
  pub wa : o.wa ≤ 255
  pub wb : o.wb ≤ 255

-- one step of the search from the costs of 256 states
pub record IsStep (costs : List ℕ) (o : Seen) (r : Stepped) : Type 0 where
  pub next : (s : ℕ) → s < 256 → get_or r.next s 0 ≡ arrive (λ (i : ℕ). get_or costs i 0) (weigh o) s
  pub chosen : (s : ℕ) → s < 256 → get_or r.chosen s 0 ≡ survivor (λ (i : ℕ). get_or costs i 0) (weigh o) s

-- the ways into two neighbouring states: d and e are what the two registers of each cost
pub record IsPair (left right d e : ℕ) (r : Pair) : Type 0 where
  pub even : r.even ≡ min (left + d) (right + e)
  pub odd : r.odd ≡ min (left + e) (right + d)
  pub ebit : r.ebit ≡ cond (ltb (right + e) (left + d)) 1 0
  pub obit : r.obit ≡ cond (ltb (right + d) (left + e)) 1 0

-- both parities of a register in one number: under the odd mask, and twice the one under the even mask
unfoldable pub pair_of : ℕ → ℕ
pair_of r = parity_of odd_mask r + 2 * parity_of even_mask r
