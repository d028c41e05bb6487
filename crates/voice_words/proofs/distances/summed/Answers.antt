use Rattle.std.proofs.Common.{arith}
use Rattle.voice_words.proofs.Summing.{summed_none, summed_more, summed_all}
use Rattle.voice_words.proofs.distances.summed.Goals as goal

pub loop-i-init : goal.loop-i-init
loop-i-init g c = summed_none _

pub loop-i-preserved : goal.loop-i-preserved
loop-i-preserved g c =
    let i = c.loop-i.i in
    summed_more _ i _ _ c.loop-i.invariant c.measure-total.ensures (c.requires.small i c.measure-total.result (omega arith) c.measure-total.ensures)

pub returns : goal.returns
returns g c = summed_all _ _ c.loop-i.i _ (omega arith) c.loop-i.invariant
