use Rattle.demands.proofs.RefusedSteps.{step_refuses}
use Rattle.recorder_asks.proofs.Making.{asked_sequential}
use Rattle.demand_recording.proofs.record_step.Goals as goal

pub returns : goal.returns
returns c =
    let a = c.args in
    step_refuses _ (asked_sequential a.asked a.table.now) _ _ _ _ _ c.step.ensures
