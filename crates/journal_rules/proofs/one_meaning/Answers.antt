-- The theorems of proofs/RoundTrips.antt, as one record.
-- Assumes nothing.
use Rattle.journal_rules.proofs.RoundTrips.{written_reads, envelope_lies, read_allowed, read_written, one_record}
use Rattle.journal_rules.proofs.one_meaning.Goals as goal

pub returns : goal.returns
returns c = record {
  written_reads = written_reads;
  envelope_lies = envelope_lies;
  read_allowed = read_allowed;
  read_written = read_written;
  one_record = one_record;
}
