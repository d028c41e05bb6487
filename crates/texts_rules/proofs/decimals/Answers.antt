-- The theorems of proofs/Spelling.antt on the text of a number, as one record.
-- Assumes nothing.
use Rattle.texts_rules.proofs.Spelling.{says_in, no_zero_first, signed_apart}
use Rattle.texts_rules.proofs.decimals.Goals as goal

pub returns : goal.returns
returns c = record { says = says_in 20; no_zero_first = λ n ds e h. no_zero_first 20 n ds h e; signed = signed_apart }
