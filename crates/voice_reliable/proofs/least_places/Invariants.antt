use mathlib.Core.Path.{◌≡◌}
use lib.ListN.{length}
use Rattle.bits.proofs.Filling.{Filled}
use Rattle.voice_rules.specs.Soft.{earliest}
use Rattle.voice_reliable.proofs.Orders.{left_after}
use Rattle.voice_reliable.proofs.least_places.Given as goal

abbrev pub invariant-loop-i : goal.invariant-loop-i
invariant-loop-i l = (length l.left ≡ 14) × ((l.left ≡ left_after l.initial.left l.i) × Filled l.places 6 (λ k. earliest (left_after l.initial.left k) 14) l.i)
