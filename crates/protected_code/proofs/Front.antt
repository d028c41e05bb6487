-- The front of a list, as a table.
-- Assumes nothing.
use Rattle.std.proofs.Common.{List, ◌≡◌, ℕ, length, get_or, take, get_or-take, ap, ◌∙◌}
use Rattle.bits.specs.Bit.{tab}
use Rattle.bits.proofs.Tabs.{is_tab}

pub front : (slots b : List ℕ) (n : ℕ) → length b ≡ n → b ≡ take n slots → b ≡ tab n (λ (k : ℕ). get_or slots k 0)
front slots b n l e = is_tab b n (λ (k : ℕ). get_or slots k 0) l (λ k h. ap (λ (x : List ℕ). get_or x k 0) e ∙ get_or-take n slots k 0 h)
