-- `field::Tables::new` meets its type: here the constants are compared with the definition, entry by entry.
-- Assumes nothing.
use Rattle.field_rules.specs.Field.{times_x}
use Rattle.field_rules.proofs.TableRules.{powers, powers_rule, logs, logs_lt, logs_rule}
use Rattle.field.proofs.tables.Tables.new.Goals as goal

pub invariant_of-result : goal.invariant_of-result
unfolding powers logs times_x
invariant_of-result c = record {
  powers_kept = record { at = powers_rule };
  logs_kept = record { at = λ a h. record { small = logs_lt a h; rule = λ p. logs_rule a p h } };
}
