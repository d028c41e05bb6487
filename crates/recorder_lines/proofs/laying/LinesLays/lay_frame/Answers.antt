-- `lay_frame`: the gap's line, then the frame's.
-- Assumes nothing.
use Rattle.std.proofs.Common.{arith, rules}
use Rattle.lines_laying.specs.Wants.{wanted_gap}
use Rattle.lines_laying.proofs.Lines.{line_size}
use Rattle.recorder_lines.proofs.Frames.{gap_few, line_few, one_laid}
use Rattle.recorder_lines.proofs.laying.LinesLays.lay_frame.Goals as goal

pub put_line-behind-requires-clause-fact_1 : goal.put_line-behind-requires-clause-fact_1
put_line-behind-requires-clause-fact_1 c =
    let a = c.args in
    omega (arith, line_size _ _ c.wanted_gap-gap.ensures, gap_few a.self.now.wanted a.before.earlier a.head.offset)

pub put_line-behind-requires-clause-fact_2 : goal.put_line-behind-requires-clause-fact_2
put_line-behind-requires-clause-fact_2 c =
    let a = c.args in
    omega (arith, c.requires.room, line_size _ _ c.wanted_gap-gap.ensures, gap_few a.self.now.wanted a.before.earlier a.head.offset)

pub put_line-requires-clause-fact_1 : goal.put_line-requires-clause-fact_1
put_line-requires-clause-fact_1 c =
    let a = c.args in
    omega (arith, line_size _ _ c.wanted_line-line.ensures, line_few a.self.now.wanted a.head)

pub put_line-requires-clause-fact_2 : goal.put_line-requires-clause-fact_2
put_line-requires-clause-fact_2 c =
    let a = c.args in
    let w = a.self.now.wanted in
    let t = wanted_gap w a.before.earlier a.head.offset in
    omega (arith, c.requires.room, line_size _ _ c.wanted_line-line.ensures, line_few w a.head, c.put_line-behind.ensures.end t c.wanted_gap-gap.ensures, gap_few w a.before.earlier a.head.offset, c.put_line-behind.auto.out)

pub returns-clause-size : goal.returns-clause-size
returns-clause-size c =
    let a = c.args in
    let w = a.self.now.wanted in
    omega (arith, c.put_line-behind.ensures.end _ c.wanted_gap-gap.ensures, c.put_line.ensures.end _ c.wanted_line-line.ensures, gap_few w a.before.earlier a.head.offset, line_few w a.head)

pub returns-clause-laid : goal.returns-clause-laid
returns-clause-laid c =
    let a = c.args in
    let gap = c.put_line-behind.ensures in
    let line = c.put_line.ensures in
    one_laid a.self.now.wanted a.out.now _ _ a.before _ a.head _ (gap.end _ c.wanted_gap-gap.ensures) (gap.stored _ c.wanted_gap-gap.ensures) (line.end _ c.wanted_line-line.ensures) (line.stored _ c.wanted_line-line.ensures) (search rules) (search rules) _
