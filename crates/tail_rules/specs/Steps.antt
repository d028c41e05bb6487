-- What each step of the repair promises the next: lists of bytes, rows of the system, and the two halves of the repair.
-- A reader need not believe these: they are met by the code and used up in the proof that the repair answers what Code.antt says.
-- Assumes nothing.
use Rattle.std.specs.Prelude.{List, [], ◌∷◌, ◌≡◌, cond, ℕ, zero, suc, ◌+◌, ◌*◌, ◌-◌, ◌<◌, ◌≤◌, get_or, length, map, replicate, eqb}
use Rattle.std.specs.declared.option.Option.{Option}
use Rattle.std.specs.declared.option.Option.TheVariants.{None, Some}
use Rattle.std.specs.Int.Bits.{bit_xor}
use Rattle.bits.specs.Bit.{tab, Bytes}
use Rattle.field_rules.specs.Field.{product, quotient, power, add_scaled}
use Rattle.tail_algebra.proofs.Bytes.{Byte, gf}
use Rattle.tail_algebra.proofs.Low.{lo, mat}
use Rattle.tail_algebra.proofs.Elimination.{Solves, Units}
use Rattle.tail_rules.specs.Massey.{updated, coefficient}
use Rattle.tail_rules.specs.Code.{among, wrong, syndrome, Codeword, Near}

-- the locator of the erased places: the product of 1 + 2^(13 - e) x
unfoldable pub erasure_locator : List ℕ → List ℕ
erasure_locator [] = 1 ∷ replicate 6 0
erasure_locator (e ∷ es) = updated (erasure_locator es) 1 (power (13 - e)) (erasure_locator es)

-- the syndromes with the f erased places taken out
pub record Forney (g s : List ℕ) (f : ℕ) (r : List ℕ) : Type 0 where
  pub long : length r ≡ 6
  pub at : (i : ℕ) → f + i < 6 → get_or r i 0 ≡ coefficient g s (f + i)

-- the value of a polynomial at z, the lowest coefficient first
unfoldable pub eval_at : List ℕ → ℕ → ℕ
eval_at [] z = 0
eval_at (c ∷ cs) z = bit_xor c (product z (eval_at cs z))

-- 0 at an erased place
abbrev pub mark_at : List ℕ → List ℕ → ℕ → ℕ
mark_at es v p = cond (among p es) 0 (get_or v p 0)

-- the exponents of the places at which v is 0; the first place has the highest
unfoldable pub exponents_of : List ℕ → List ℕ
exponents_of [] = []
exponents_of (x ∷ xs) = cond (eqb x 0) (length xs ∷ exponents_of xs) (exponents_of xs)

-- t with the bytes y added, one after the other, at the places at which v is 0
unfoldable pub added_at : List ℕ → List ℕ → List ℕ → List ℕ
added_at [] t y = []
added_at (x ∷ xs) [] y = []
added_at (zero ∷ xs) (b ∷ bs) [] = b ∷ added_at xs bs []
added_at (zero ∷ xs) (b ∷ bs) (y ∷ ys) = bit_xor b y ∷ added_at xs bs ys
added_at (suc x ∷ xs) (b ∷ bs) y = b ∷ added_at xs bs y

-- ---- rows

-- a row scaled
abbrev pub scale_by : ℕ → List ℕ → List ℕ
scale_by k row = map (λ x. product k x) row

abbrev pub entry : List (List ℕ) → ℕ → ℕ → ℕ
entry m r c = get_or (get_or m r []) c 0

-- row r of the system: the r-th power of each place's node, and the syndrome
pub record RowOf (at : List ℕ) (count r s : ℕ) (row : List ℕ) : Type 0 where
  pub long : length row ≡ 7
  pub nodes : (c : ℕ) → c < count → get_or row c 0 ≡ power (r * get_or at c 0)
  pub right : get_or row count 0 ≡ s

pub record SystemOf (at : List ℕ) (count : ℕ) (s : List ℕ) (m : List (List ℕ)) : Type 0 where
  pub long : length m ≡ 6
  pub rows : (r : ℕ) → r < 6 → RowOf at count r (get_or s r 0) (get_or m r [])

-- a row scaled so that its entry at col is one
pub record ScaledRow (m : List (List ℕ)) (col : ℕ) (r : List (List ℕ)) : Type 0 where
  pub long : length r ≡ length m
  pub byte : entry m col col < 256
  pub row : get_or r col [] ≡ scale_by (quotient 1 (entry m col col)) (get_or m col [])
  pub rest : (i : ℕ) → ¬ (i ≡ col) → get_or r i [] ≡ get_or m i []

-- one column cleared below and above its pivot's row
pub record ClearedBy (m : List (List ℕ)) (col count : ℕ) (r : List (List ℕ)) : Type 0 where
  pub long : length r ≡ length m
  pub pivot : get_or r col [] ≡ get_or m col []
  pub others : (i : ℕ) → i < count → ¬ (i ≡ col) → get_or r i [] ≡ add_scaled (get_or m i []) (entry m i col) (get_or m col [])

-- two rows exchanged
pub record SwappedRows (m : List (List ℕ)) (i j : ℕ) (r : List (List ℕ)) : Type 0 where
  pub long : length r ≡ length m
  pub first : get_or r i [] ≡ get_or m j []
  pub second : get_or r j [] ≡ get_or m i []
  pub rest : (k : ℕ) → ¬ (k ≡ i) → ¬ (k ≡ j) → get_or r k [] ≡ get_or m k []

-- the first row from col on whose entry at col is not zero
pub record PivotAt (m : List (List ℕ)) (col count : ℕ) (found : Option ℕ) : Type 0 where
  pub live : (r : ℕ) → found ≡ Some r → (col ≤ r) × (r < count) × ¬ (entry m r col ≡ 0)
  pub dead : found ≡ None → (k : ℕ) → col ≤ k → k < count → entry m k col ≡ 0

-- rows of seven bytes
pub record Rows (count : ℕ) (m : List (List ℕ)) : Type 0 where
  pub long : length m ≡ 6
  pub rows : (r : ℕ) → r < count → length (get_or m r []) ≡ 7

-- with nothing on the right the system has the solution zero alone
abbrev pub Regular : ℕ → List (List ℕ) → Type 0
Regular count m =
    (z : ℕ → Byte) → Solves gf count (suc count) (mat m) z → z count ≡ gf.𝟘 → (c : ℕ) → c < count → z c ≡ gf.𝟘

-- a row from col on has an entry at col that is not zero
abbrev pub HasPivot : ℕ → ℕ → List (List ℕ) → Type 0
HasPivot count col m = ¬ ((k : ℕ) → col ≤ k → k < count → entry m k col ≡ 0)

-- one column done: the solutions are the same, and one column more is a column of the unit matrix
pub record Eliminated (count col : ℕ) (m r : List (List ℕ)) : Type 0 where
  pub rows : Rows count r
  pub to : (z : ℕ → Byte) → Solves gf count (suc count) (mat m) z → Solves gf count (suc count) (mat r) z
  pub from : (z : ℕ → Byte) → Solves gf count (suc count) (mat r) z → Solves gf count (suc count) (mat m) z
  pub unit : Units gf count col (mat m) → Units gf count (suc col) (mat r)

-- what stands at count in each row
pub record ColumnOf (count : ℕ) (m : List (List ℕ)) (r : List ℕ) : Type 0 where
  pub long : length r ≡ 6
  pub at : (i : ℕ) → i < count → (get_or r i 0 ≡ entry m i count) × (get_or r i 0 < 256)

-- any solution of the system is y
pub record Solved (count : ℕ) (m : List (List ℕ)) (y : List ℕ) : Type 0 where
  pub long : length y ≡ 6
  pub bytes : (c : ℕ) → c < count → get_or y c 0 < 256
  pub only : (z : ℕ → Byte) → Solves gf count (suc count) (mat m) z → z count ≡ gf.𝟙 → (c : ℕ) → c < count → z c ≡ lo (get_or y c 0)

-- ---- the two halves of the repair

-- the places that may be wrong: at those where w is 0
pub record MayDiffer (w t c : List ℕ) : Type 0 where
  pub same : (p : ℕ) → p < 14 → ¬ (get_or w p 0 ≡ 0) → get_or c p 0 ≡ get_or t p 0

-- where a word with the syndromes s and the places es erased may be wrong; nothing is found only where it has no repair
pub record Located (es s : List ℕ) (found : Option (List ℕ)) : Type 0 where
  pub long : (w : List ℕ) → found ≡ Some w → length w ≡ 14
  pub few : (w : List ℕ) → found ≡ Some w → length (exponents_of w) ≤ 6
  pub close : (w : List ℕ) → found ≡ Some w → (t c : List ℕ) → length t ≡ 14 → length c ≡ 14 → MayDiffer w t c → 2 * wrong es t c + length es ≤ 6
  pub all : (t c : List ℕ) → length t ≡ 14 → Bytes t → s ≡ tab 6 (syndrome t) → Near es t c → (w : List ℕ) × (found ≡ Some w) × MayDiffer w t c

-- t changed at those places: into the one codeword that differs from t there alone, if there is one
pub record Corrected (t w r : List ℕ) : Type 0 where
  pub long : length r ≡ 14
  pub bytes : Bytes r
  pub within : MayDiffer w t r
  pub only : (c : List ℕ) → Codeword c → MayDiffer w t c → r ≡ c
