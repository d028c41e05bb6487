-- `tail_making::encode_word` meets its contract: the last fourteen bytes are lent on.
-- Assumes nothing.
use Rattle.tail_rules.proofs.MakingCalled.{last_long, encode_size, encode_size_leaves, encode_answer_lem, encode_leaves_lem}
use Rattle.tail_making.proofs.encode_word.Goals as goal

pub returns-then-word-ne42 : goal.returns-then-word-ne42
returns-then-word-ne42 c = let h = c.if-word-ne42.true in record { value = encode_size _ h; leaves = encode_size_leaves _ h }

pub make_tail-requires : goal.make_tail-requires
make_tail-requires c = last_long c.args.word.now c.if-word-ne42.false

pub returns : goal.returns
returns c =
    let h = c.if-word-ne42.false in
    record { value = encode_answer_lem _ h; leaves = encode_leaves_lem _ h _ c.make_tail.ensures }
