-- Two of three, of equal tests.
-- Assumes nothing.
use mathlib.Core.Path.{◌≡◌}
use mathlib.Core.Bool.{Bool}
use Rattle.sync_rules.specs.Matching.{two_of}

pub two_like : (a b c a' b' c' : Bool) → a ≡ a' → b ≡ b' → c ≡ c' → two_of a b c ≡ two_of a' b' c'
two_like a b c a' b' c' p q r = cc
