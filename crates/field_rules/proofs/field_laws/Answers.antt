-- The definitions are the textbook's field, field by field of the statement.
-- Assumes nothing.
use mathlib.Core.Path.{◌≡◌, refl}
use Rattle.field_rules.specs.Field.{product}
use Rattle.field_rules.proofs.Products.{product_lt, product_xor, product_one_l, power_add}
use Rattle.field_rules.proofs.Laws.{product_comm, product_assoc, no_zero_divisors, quotient_product, quotient_unique, quotient_zero, power_mod, power_distinct, logarithm}
use Rattle.field_rules.proofs.Textbook.{product_remainder, remainder_unique}
use Rattle.field_rules.proofs.field_laws.Goals as goal

starred : (product 2 128 ≡ 29) × (product 0 255 ≡ 0)
unfolding product
starred = (refl, refl)

pub returns : goal.returns
returns c =
    record {
      byte = product_lt;
      remainder = product_remainder;
      only_remainder = remainder_unique;
      commutes = product_comm;
      associates = product_assoc;
      distributes = product_xor;
      one = product_one_l;
      no_divisor_of_zero = no_zero_divisors;
      divides = quotient_product;
      only_quotient = quotient_unique;
      by_zero = quotient_zero;
      exponents = power_add;
      period = power_mod;
      each = logarithm;
      once = power_distinct;
      examples = starred;
    }
