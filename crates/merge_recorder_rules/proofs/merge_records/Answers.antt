-- `merge_records`.
-- Assumes nothing.
use Rattle.merge_recorder_rules.proofs.Histories.{merge_records_lem}
use Rattle.merge_recorder_rules.proofs.merge_records.Goals as goal

pub returns : goal.returns
returns c = merge_records_lem
