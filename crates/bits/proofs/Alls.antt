-- What holds of each element of a list: of one by its place, of a list with one replaced, and what follows of one or of two such.
-- Assumes nothing.
use mathlib.Core.List.{List, [], ◌∷◌}
use Prim.Native.Nat.{ℕ, zero, suc, ◌<◌}
use native.Mathlib.Nat.{not-suc-le-zero, le_of_suc-le-suc}
use lib.ListN.{length, get_or, set}
use Rattle.bits.specs.Alls.{All}

module _ {A : Type 0} (P : A → Type 0) where
  pub all_at : (d : A) (l : List A) (i : ℕ) → All P l → i < length l → P (get_or l i d)
  all_at d [] i f h = absurd (not-suc-le-zero h)
  all_at d (x ∷ xs) zero f h = f.0
  all_at d (x ∷ xs) (suc i) f h = all_at d xs i f.1 (le_of_suc-le-suc h)

  pub all_set : (l : List A) (i : ℕ) (q : A) → All P l → P q → All P (set l i q)
  all_set [] i q f g = tt
  all_set (x ∷ xs) zero q f g = (g, f.1)
  all_set (x ∷ xs) (suc i) q f g = (f.0, all_set xs i q f.1 g)

pub all_map {ℓ} : {P : Type ℓ} {Q R : P → Type 0} → ((p : P) → Q p → R p) → (ps : List P) → All Q ps → All R ps
all_map f [] h = tt
all_map f (p ∷ ps) h = (f p h.0, all_map f ps h.1)

pub all_map2 {ℓ} : {P : Type ℓ} {Q R S : P → Type 0} → ((p : P) → Q p → R p → S p) → (ps : List P) → All Q ps → All R ps → All S ps
all_map2 f [] h g = tt
all_map2 f (p ∷ ps) h g = (f p h.0 g.0, all_map2 f ps h.1 g.1)
