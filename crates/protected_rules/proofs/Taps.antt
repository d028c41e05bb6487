-- A coded bit as a sum of input bits: those that its mask picks, counted back from its step.
-- Assumes nothing.
use mathlib.Core.List.{List}
use mathlib.Core.Path.{◌≡◌, refl, ap, ◌∙◌}
use Prim.Native.Nat.{ℕ, zero, suc, ◌+◌, ◌*◌, ◌/◌, ◌%◌, ◌<◌}
use native.Mathlib.Omega.{arith}
use lib.Count.{ones, ones_in}
use lib.Dec.{lit<}
use lib.ListN.{get_or}
use Rattle.bits.proofs.Computed.{same_below}
use Rattle.bits.proofs.Digits.{digit_zero, digit_suc}
use Rattle.bits.specs.Bit.{digit, Bits}
use Rattle.protected_rules.specs.Convolution.{Input, parity_of, state_after, register, even_mask, odd_mask, convolved}
use Rattle.protected_rules.specs.Statements.{ago, even_taps, odd_taps}
use Rattle.protected_rules.specs.Table.{Admitted}
use Rattle.protected_rules.proofs.CodedBits.{convolved_even, convolved_odd, state_lt}

-- ---- the digits of the nine-bit state are the last nine input bits

low_digit : (v j : ℕ) → j < 8 → digit (v % 256) j ≡ digit v j
low_digit v zero h = omega arith
low_digit v (suc zero) h = omega arith
low_digit v (suc (suc zero)) h = omega arith
low_digit v (suc (suc (suc zero))) h = omega arith
low_digit v (suc (suc (suc (suc zero)))) h = omega arith
low_digit v (suc (suc (suc (suc (suc zero))))) h = omega arith
low_digit v (suc (suc (suc (suc (suc (suc zero)))))) h = omega arith
low_digit v (suc (suc (suc (suc (suc (suc (suc zero))))))) h = omega arith
low_digit v (suc (suc (suc (suc (suc (suc (suc (suc j)))))))) h = absurd (omega arith)

zero_digit : (j : ℕ) → digit 0 j ≡ 0
zero_digit zero = refl
zero_digit (suc j) = digit_suc 0 j ∙ zero_digit j

module _ (x : List ℕ) (b : Bits x) where
  register_digit : (t j : ℕ) → j < 9 → digit (register x t) j ≡ ago x t j
  unfolding state_after
  register_digit t zero h = digit_zero (register x t) ∙ omega (arith, b.at t)
  register_digit zero (suc j) h =
      let e : register x 0 / 2 ≡ 0 = omega (arith, b.at 0) in digit_suc (register x 0) j ∙ ap (λ (v : ℕ). digit v j) e ∙ zero_digit j
  register_digit (suc t) (suc j) h =
      let e : register x (suc t) / 2 ≡ register x t % 256 = omega (arith, b.at (suc t)) in
      digit_suc (register x (suc t)) j ∙ ap (λ (v : ℕ). digit v j) e ∙ low_digit (register x t) j (omega arith) ∙ register_digit t j (omega arith)

  register_lt : (t : ℕ) → register x t < 512
  register_lt t = omega (arith, state_lt x t, b.at t)

-- ---- what each mask picks

even_picks : (v : ℕ) → v < 512 → parity_of even_mask v ≡ even_taps (digit v)
unfolding parity_of ones ones_in
even_picks = same_below (parity_of even_mask) (λ v. even_taps (digit v)) 512 tt

odd_picks : (v : ℕ) → v < 512 → parity_of odd_mask v ≡ odd_taps (digit v)
unfolding parity_of ones ones_in
odd_picks = same_below (parity_of odd_mask) (λ v. odd_taps (digit v)) 512 tt

module _ (table x : List ℕ) (a : Admitted table) (i : Input x) (t : ℕ) (h : t < 94) where
  back : (j : ℕ) → j < 9 → digit (register x t) j ≡ ago x t j
  back j l = register_digit x i.bits t j l

  pub even_sum : get_or table (2 * t) 0 < 176 → get_or (convolved table x) (get_or table (2 * t) 0) 0 ≡ even_taps (ago x t)
  even_sum l =
      convolved_even table a x t h l ∙ even_picks (register x t) (register_lt x i.bits t)
      ∙ simp (back 0 (lit< tt), back 1 (lit< tt), back 2 (lit< tt), back 3 (lit< tt), back 5 (lit< tt), back 7 (lit< tt), back 8 (lit< tt))

  pub odd_sum : get_or (convolved table x) (get_or table (2 * t + 1) 0) 0 ≡ odd_taps (ago x t)
  odd_sum =
      convolved_odd table a x t h ∙ odd_picks (register x t) (register_lt x i.bits t)
      ∙ simp (back 0 (lit< tt), back 2 (lit< tt), back 3 (lit< tt), back 4 (lit< tt), back 8 (lit< tt))
