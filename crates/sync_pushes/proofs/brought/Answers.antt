-- `sync_pushes::brought` meets its contract.
-- Assumes nothing.
use Rattle.sync_inputs.specs.Inputs.{input_of}
use Rattle.sync_pushes.proofs.Bringing.{brings}
use Rattle.sync_pushes.proofs.brought.Goals as goal

pub returns : goal.returns
returns c =
    let a = c.args in
    brings a.bits.now a.reliabilities.now a.k c.requires.fact_3.long c.requires.fact_3.as_long c.requires.fact_1 c.requires.fact_2.0 c.requires.fact_2.1 (input_of a.x) _ _
    c.put.ensures c.put-2.ensures _ c.appended.ensures c.requires.fact_3.binary c.requires.fact_4
