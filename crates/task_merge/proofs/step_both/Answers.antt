-- `step_both`: what is lent of a stream is the rest of its piece.
-- Assumes nothing.
use mathlib.Core.Path.{sym, subst}
use mathlib.Core.Bool.{Bool, not}
use lib.Seq.{length-take-le}
use Rattle.frame_outcomes.specs.Outcomes.{tried_of}
use Rattle.intake.specs.Pieces.{is_on}
use Rattle.merge_recorder_rules.specs.Steps.{MergeSteppedBy}
use Rattle.task_merge.specs.Heard.{rest_in}
use Rattle.task_merge.proofs.step_both.Goals as goal

pub slice_bounds-step-end : goal.slice_bounds-step-end
slice_bounds-step-end c = sym (length-take-le c.args.one.size c.args.first.now c.requires.fact_2.size)

pub slice_bounds-step-end-2 : goal.slice_bounds-step-end-2
slice_bounds-step-end-2 c = sym (length-take-le c.args.two.size c.args.second.now c.requires.fact_3.size)

pub returns : goal.returns
returns c =
    let a = c.args in record {
      met = subst (λ (x : Bool). MergeSteppedBy (tried_of a.table.now) a.out.now c.step.new.out (rest_in a.first.now a.one) (not x) (rest_in a.second.now a.two) (not (is_on a.two.going)) a.r c.step.result) c.goes_on.ensures
          (subst (λ (y : Bool). MergeSteppedBy (tried_of a.table.now) a.out.now c.step.new.out (rest_in a.first.now a.one) (not c.goes_on.result) (rest_in a.second.now a.two) (not y) a.r c.step.result) c.goes_on-2.ensures c.step.ensures.merge_stepped_by);
      valid = c.step.ensures.valid;
    }
