-- Lists whose elements are all below a bound, through a store and as a list of zeros.
-- Assumes nothing.
use mathlib.Core.List.{List, [], ◌∷◌}
use Prim.Native.Nat.{ℕ, zero, suc, ◌<◌}
use lib.ListN.{set, replicate}
use Rattle.bits.specs.Bit.{Below}
use Rattle.bits.proofs.Belows.{below_none, below_cons, below_rest}

pub below_set : {n : ℕ} (l : List ℕ) (i v : ℕ) → Below n l → v < n → Below n (set l i v)
below_set [] i v b h = b
below_set (x ∷ l) zero v b h = below_cons h (below_rest b)
below_set (x ∷ l) (suc i) v b h = below_cons (b.at 0) (below_set l i v (below_rest b) h)

pub below_replicate : {n : ℕ} (k v : ℕ) → v < n → 0 < n → Below n (replicate k v)
below_replicate {n} zero v h z = below_none n z
below_replicate (suc k) v h z = below_cons h (below_replicate k v h z)
