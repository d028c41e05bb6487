-- A list with one element more, of elements of any type. Assumes nothing.
use mathlib.Core.Path.{◌≡◌, refl, ap}
use mathlib.Core.List.{List, [], ◌∷◌}
use Prim.Native.Nat.{ℕ, zero, suc}
use lib.ListN.{length}
use Rattle.bits.specs.Alls.{All}
use Rattle.merger_rules.specs.Merging.{insert_at}

module _ {X : Type 0} where
  pub length_insert : (n : ℕ) (x : X) (l : List X) → length (insert_at n x l) ≡ suc (length l)
  length_insert zero x l = refl
  length_insert (suc n) x [] = refl
  length_insert (suc n) x (y ∷ l) = ap suc (length_insert n x l)

  pub all_insert : (P : X → Type 0) (n : ℕ) (l : List X) (q : X) → All P l → P q → All P (insert_at n q l)
  all_insert P zero l q f g = (g, f)
  all_insert P (suc n) [] q f g = (g, tt)
  all_insert P (suc n) (p ∷ ps) q f g = (f.0, all_insert P n ps q f.1 g)
