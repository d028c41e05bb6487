use Rattle.merger_rules.specs.Scripts.{releases}
use Rattle.merger_rules.proofs.Rising.{advances, rising, apart}
use Rattle.merger_rules.proofs.rises.Goals as goal

pub returns : goal.returns
returns c = record { each = advances; all = rising; no_two = λ calls v i j h k. apart v.last (releases calls v) i j (rising calls v) h k }
