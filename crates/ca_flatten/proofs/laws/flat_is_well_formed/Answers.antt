use Rattle.ca_flatten.proofs.NetworkLemmas.{formed}
use Rattle.ca_flatten.proofs.laws.flat_is_well_formed.Goals as goal

pub returns : goal.returns
returns c = formed
