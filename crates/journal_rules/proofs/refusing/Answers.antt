-- The theorems of proofs/Records.antt and proofs/RoundTrips.antt on refusals, as one record.
-- Assumes nothing.
use Rattle.journal_rules.proofs.Records.{writes_nothing, five, twelve, else_written}
use Rattle.journal_rules.proofs.RoundTrips.{unread_twelve, only_twelve}
use Rattle.journal_rules.proofs.refusing.Goals as goal

pub returns : goal.returns
returns c = record {
  writes_nothing = writes_nothing;
  five = five;
  twelve = twelve;
  else_written = else_written;
  unread_twelve = unread_twelve;
  only_twelve = only_twelve;
}
