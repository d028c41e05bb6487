-- `recorder_rules::makings_sequential` meets its contract.
-- Assumes nothing.
use Rattle.recorder_rules.proofs.Laying.{journal_sequential}
use Rattle.recorder_rules.proofs.Lines.{listing_sequential, slipping_sequential}
use Rattle.recorder_rules.proofs.makings_sequential.Goals as goal

pub returns : goal.returns
returns c = record { journal = journal_sequential; listing = listing_sequential; slipping = slipping_sequential }
