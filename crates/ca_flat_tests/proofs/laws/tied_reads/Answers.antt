use Rattle.ca_flat_tests.proofs.TiedReadings.{tied_reads_lem}
use Rattle.ca_flat_tests.proofs.laws.tied_reads.Goals as goal

pub returns : goal.returns
returns c = tied_reads_lem
