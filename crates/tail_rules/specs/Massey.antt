-- Document 01, 'Coding': the repair is by Berlekamp-Massey. The algorithm on lists, as the source has it: the state, one step, the run.
-- A locator has seven coefficients, the lowest first. It is the contract of the code's loop; what the repair answers does not rest on it.
-- Assumes nothing.
use Rattle.std.specs.Prelude.{List, [], ◌∷◌, Bool, true, false, ℕ, zero, suc, ◌+◌, ◌-◌, ◌*◌, leb, eqb, get_or, replicate}
use Rattle.std.specs.Int.Bits.{bit_xor}
use Rattle.field_rules.specs.Field.{product, quotient}

-- the locator, the one before its last growth, its degree, the steps since, and the discrepancy then
pub record State : Type 0 where
  pub loc : List ℕ
  pub old : List ℕ
  pub degree : ℕ
  pub gap : ℕ
  pub last : ℕ

abbrev pub state : List ℕ → List ℕ → ℕ → ℕ → ℕ → State
state l o d g b = record { loc = l; old = o; degree = d; gap = g; last = b }

-- C + k x^g B, cut at the length of C
unfoldable pub updated : List ℕ → ℕ → ℕ → List ℕ → List ℕ
updated [] g k B = []
updated (c ∷ cs) zero k [] = c ∷ cs
updated (c ∷ cs) zero k (b ∷ bs) = bit_xor c (product k b) ∷ updated cs zero k bs
updated (c ∷ cs) (suc g) k B = c ∷ updated cs g k B

-- the coefficient of x^n in the product of the polynomial C and the series s
unfoldable pub coefficient : List ℕ → List ℕ → ℕ → ℕ
coefficient [] s n = 0
coefficient (c ∷ cs) s zero = product c (get_or s 0 0)
coefficient (c ∷ cs) s (suc n) = bit_xor (product c (get_or s (suc n) 0)) (coefficient cs s n)

-- the state after step n, by whether the discrepancy d is zero and whether the locator must grow
unfoldable pub step_by : Bool → Bool → ℕ → State → ℕ → State
step_by true g n st d = state st.loc st.old st.degree (st.gap + 1) st.last
step_by false true n st d = state (updated st.loc st.gap (quotient d st.last) st.old) st.loc (n + 1 - st.degree) 1 d
step_by false false n st d = state (updated st.loc st.gap (quotient d st.last) st.old) st.old st.degree (st.gap + 1) st.last

-- step n, with the discrepancy d
unfoldable pub step : ℕ → State → ℕ → State
step n st d = step_by (eqb d 0) (leb (2 * st.degree) n) n st d

-- the state after the first n terms of s
unfoldable pub run : List ℕ → ℕ → State
run s zero = state (1 ∷ replicate 6 0) (1 ∷ replicate 6 0) 0 1 1
run s (suc n) = let st : State = run s n in step n st (coefficient st.loc s n)
