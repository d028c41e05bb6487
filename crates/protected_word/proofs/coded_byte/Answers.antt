use borrow.Author.Tests.{lt-ltb, le-ltb}
use Rattle.protected_rules.specs.Word.{with_coded_byte}
use Rattle.protected_word.proofs.coded_byte.Goals as goal

pub returns-then-k-lt5 : goal.returns-then-k-lt5
unfolding with_coded_byte
returns-then-k-lt5 c = simp (lt-ltb _ _ c.if-k-lt5.true)

pub returns-then-k-lt16 : goal.returns-then-k-lt16
unfolding with_coded_byte
returns-then-k-lt16 c = simp (le-ltb _ _ c.if-k-lt5.false, lt-ltb _ _ c.if-k-lt16.true) c.gather.ensures

pub returns-then-k-lt21 : goal.returns-then-k-lt21
unfolding with_coded_byte
returns-then-k-lt21 c = simp (le-ltb _ _ c.if-k-lt5.false, le-ltb _ _ c.if-k-lt16.false, lt-ltb _ _ c.if-k-lt21.true)

pub returns-then-k-lt32 : goal.returns-then-k-lt32
unfolding with_coded_byte
returns-then-k-lt32 c = simp (le-ltb _ _ c.if-k-lt5.false, le-ltb _ _ c.if-k-lt16.false, le-ltb _ _ c.if-k-lt21.false, lt-ltb _ _ c.if-k-lt32.true) c.gather-then-k-lt32.ensures

pub returns : goal.returns
unfolding with_coded_byte
returns c = simp (le-ltb _ _ c.if-k-lt5.false, le-ltb _ _ c.if-k-lt16.false, le-ltb _ _ c.if-k-lt21.false, le-ltb _ _ c.if-k-lt32.false)
