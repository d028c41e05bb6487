-- `put_line`: the text stands in place behind what was there.
-- Assumes nothing.
use Rattle.std.proofs.Common.{arith}
use Rattle.lines_laying.proofs.Lines.{line_size, put_line_text}
use Rattle.lines_laying.proofs.put_line.Goals as goal

pub returns-clause-end : goal.returns-clause-end
returns-clause-end c = λ t e. omega (arith, line_size c.args.line t e)

pub returns-clause-stored : goal.returns-clause-stored
returns-clause-stored c = λ t e. put_line_text c.args.line t c.args.out.now _ c.args.at e c.requires.fact_2 c.copy_from_slice.ensures.after
