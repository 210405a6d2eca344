use Rattle.ca_spice.proofs.FoundLemmas.{found}
use Rattle.ca_spice.proofs.laws.found_cell.Goals as goal

pub returns : goal.returns
returns c = found
