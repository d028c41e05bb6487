-- `take`: the pushes of a stretch, up to the first that sends or is refused.
-- Assumes nothing.
use Rattle.sync_inputs.specs.Inputs.{inputs_of}
use Rattle.merge_recorder_turns.proofs.Bringing.{same_dibits, dibits_in_lem, took_as}
use borrow.Author.Rules.{rules}
use Rattle.merge_recorder_turns.proofs.take.Goals as goal

pub returns : goal.returns
unfolding inputs_of
returns c =
    let a = c.args in
    took_as _ (dibits_in_lem a.bytes.now a.from a.i a.n) _ _ _ c.requires.fact_1 _ _ _ _ _ (search rules) _ (same_dibits a.bytes.now a.from a.i a.n) c.feed_into-d.ensures _ c.settled_after.ensures
