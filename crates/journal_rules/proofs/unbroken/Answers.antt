-- The theorems of proofs/Gapless.antt, as one record.
-- Assumes nothing.
use Rattle.journal_rules.proofs.Gapless.{follows, once, none_before, none_after, unchanged, writable}
use Rattle.journal_rules.proofs.unbroken.Goals as goal

pub returns : goal.returns
returns c = record {
  follows = follows;
  once = once;
  none_before = none_before;
  none_after = none_after;
  unchanged = unchanged;
  writable = writable;
}
