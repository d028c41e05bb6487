use Rattle.merger_stream_rules.proofs.Grid.{merged, none_passed, late_past, exactly}
use Rattle.merger_stream_rules.proofs.one_grid.Goals as goal

pub returns : goal.returns
returns c = λ g calls o. record { none_passed = none_passed g calls o; late_past = late_past g calls o; members = merged g calls o; exactly = λ grid. exactly g calls grid o }
