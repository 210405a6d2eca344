use Rattle.ca_flat_tests.proofs.TiedReadings.{tied_support_lem}
use Rattle.ca_flat_tests.proofs.laws.tied_support.Goals as goal

pub returns : goal.returns
returns c = tied_support_lem
