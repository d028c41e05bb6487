-- What is claimed of the text of a number.
-- Assumes nothing.
use Rattle.std.specs.Prelude.{List, ◌∷◌, ◌≡◌, ℕ, ◌^◌, ◌<◌, ℤ, nat_abs}
use Rattle.texts_rules.specs.Decimal.{decimal, signed_decimal, said_by}

pub record Decimals : Type 0 where
  -- the digits say the number, so that two numbers never have one text
  pub says : (n : ℕ) → n < 10 ^ 20 → said_by (decimal n) ≡ n
  -- no zero stands in front of another number
  pub no_zero_first : (n : ℕ) (ds : List ℕ) → decimal n ≡ 48 ∷ ds → n < 10 ^ 20 → n ≡ 0
  -- two numbers with a sign never have one text: no digit is a minus sign
  pub signed : (a b : ℤ) → nat_abs a < 10 ^ 20 → nat_abs b < 10 ^ 20 → signed_decimal a ≡ signed_decimal b → a ≡ b
