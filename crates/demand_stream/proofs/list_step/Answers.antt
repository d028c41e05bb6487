use Rattle.demands.proofs.RefusedSteps.{step_refuses}
use Rattle.recorder_lines.specs.Laws.{wanted_sequential}
use Rattle.demand_stream.proofs.list_step.Goals as goal

pub returns : goal.returns
returns c = step_refuses _ (wanted_sequential c.args.wanted) _ _ _ _ _ c.step.ensures
