-- Lists whose elements are all below a bound: bytes and bits.
-- Assumes nothing.
use mathlib.Core.List.{List, [], ◌∷◌, ◌++◌}
use mathlib.Core.Path.{◌≡◌, refl, sym, subst}
use Prim.Native.Nat.{ℕ, zero, suc, ◌+◌, ◌<◌, ◌≤◌}
use native.Mathlib.Decide.{dec_lt}
use native.Mathlib.Omega.{arith}
use lib.ListN.{length, get_or, take, drop}
use Rattle.bits.specs.Bit.{tab, Below}
use Rattle.bits.proofs.Tabs.{past_end, tab_all}

pub below_none : (n : ℕ) → 0 < n → Below n []
below_none n h = record { at = λ k. h }

-- a list is below a bound when each of its elements is: past its end there are zeros
pub below_all : {n : ℕ} (l : List ℕ) → 0 < n → ((k : ℕ) → k < length l → get_or l k 0 < n) → Below n l
below_all {n} l z h = record { at = λ k. go k (dec_lt k (length l)) }
  where
    go : (k : ℕ) → Dec (k < length l) → get_or l k 0 < n
    go k (yes g) = h k g
    go k (no g) = subst (λ (x : ℕ). x < n) (sym (past_end l k (omega (arith, g)))) z

pub below_cons : {n x : ℕ} {l : List ℕ} → x < n → Below n l → Below n (x ∷ l)
below_cons {n} {x} {l} h b = record { at = go }
  where
    go : (k : ℕ) → get_or (x ∷ l) k 0 < n
    go zero = h
    go (suc k) = b.at k

pub below_rest : {n x : ℕ} {l : List ℕ} → Below n (x ∷ l) → Below n l
below_rest b = record { at = λ k. b.at (suc k) }

pub below_append : {n : ℕ} (a : List ℕ) {b : List ℕ} → Below n a → Below n b → Below n (a ++ b)
below_append [] p q = q
below_append (x ∷ a) p q = below_cons (p.at 0) (below_append a (below_rest p) q)

pub below_take : {n : ℕ} (k : ℕ) (l : List ℕ) → Below n l → Below n (take k l)
below_take zero l b = record { at = λ k. lowest (b.at 0) }
  where
    lowest : {x n : ℕ} → x < n → 0 < n
    lowest h = omega arith
below_take (suc k) [] b = b
below_take (suc k) (x ∷ l) b = below_cons (b.at 0) (below_take k l (below_rest b))

pub below_drop : {n : ℕ} (k : ℕ) (l : List ℕ) → Below n l → Below n (drop k l)
below_drop zero l b = b
below_drop (suc k) [] b = b
below_drop (suc k) (x ∷ l) b = below_drop k l (below_rest b)

pub below_tab : {n : ℕ} (m : ℕ) (f : ℕ → ℕ) → 0 < n → ((k : ℕ) → k < m → f k < n) → Below n (tab m f)
below_tab {n} m f z h = record { at = tab_all (λ x. x < n) m f z h }
