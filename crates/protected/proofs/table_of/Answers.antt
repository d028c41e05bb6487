use Rattle.std.proofs.Common.{sym, ◌∙◌}
use Rattle.protected_rules.proofs.Admission.{not_long, admits_admitted}
use Rattle.protected.proofs.table_of.Goals as goal

pub invariant_of-result : goal.invariant_of-result
invariant_of-result c = record { admitted = admits_admitted _ (sym c.keeps_rules.ensures ∙ c.if-keeps_rules.true) }

pub returns-in_default-clause-admitted : goal.returns-in_default-clause-admitted
returns-in_default-clause-admitted c = not_long _ c.in_default.ensures.1
