use Rattle.voice_rules.proofs.LimitTable.{limit_table}
use Rattle.voice_rules.proofs.limit_table.Goals as goal

pub returns : goal.returns
returns c = limit_table
