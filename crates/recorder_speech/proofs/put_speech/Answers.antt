-- `put_speech`: the gap's line, then the frame's.
-- Assumes nothing.
use mathlib.Core.Path.{◌≡◌, refl, ap}
use Prim.Native.Nat.{ℕ, ◌+◌}
use native.Mathlib.Omega.{arith}
use lib.ListN.{length}
use Rattle.journal_rules.specs.Gaps.{gap_to}
use Rattle.lines_rules.specs.Entries.{between_text}
use Rattle.lines_rules.proofs.Lengths.{between_short}
use Rattle.lines_laying.proofs.Lines.{line_size}
use Rattle.recorder_asks.specs.Asks.{decoded_text}
use Rattle.recorder_asks.proofs.Speaking.{answer_few}
use Rattle.recorder_speech.proofs.Spoken.{one_few, speech_laid}
use borrow.Author.Rules.{rules}
use Rattle.recorder_speech.proofs.put_speech.Goals as goal

pub put_line-behind-requires : goal.put_line-behind-requires
put_line-behind-requires c =
    let a = c.args in
    let b = gap_to a.before.earlier a.head.offset in
    let long = line_size c.gap_before-gap.result (between_text b) c.gap_before-gap.ensures in
    let few = between_short b in
    record { fact_1 = omega arith; fact_2 = omega (arith, c.requires.fact_1) }

pub put_line-size-requires : goal.put_line-size-requires
put_line-size-requires c =
    let a = c.args in
    let d = a.decoded in
    let b = gap_to a.before.earlier a.head.offset in
    let long = line_size c.answer_line-line.result (decoded_text a.head.offset d) c.answer_line-line.ensures in
    let few = answer_few a.head.offset d in
    let at = c.put_line-behind.ensures.end (between_text b) c.gap_before-gap.ensures in
    let same : length c.put_line-behind.new.out ≡ length a.out.now = search rules in
    record { fact_1 = omega arith; fact_2 = omega (arith, c.requires.fact_1, between_short b) }

pub overflow_add-result : goal.overflow_add-result
overflow_add-result c =
    omega (arith, c.requires.fact_2, c.accepted_by.ensures, one_few c.args.decoded)

pub returns : goal.returns
returns c =
    let a = c.args in
    let t = between_text (gap_to a.before.earlier a.head.offset) in
    let u = decoded_text a.head.offset a.decoded in
    speech_laid a.out.now _ _ a.before _ a.head a.decoded c.put_line-behind.result (c.put_line-behind.ensures.end t c.gap_before-gap.ensures) (c.put_line-behind.ensures.stored t c.gap_before-gap.ensures) (c.put_line-size.ensures.end u c.answer_line-line.ensures) (c.put_line-size.ensures.stored u c.answer_line-line.ensures) (ap (λ (n : ℕ). a.before.accepted + n) c.accepted_by.ensures) refl
