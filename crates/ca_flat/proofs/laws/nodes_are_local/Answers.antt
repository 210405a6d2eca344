use Rattle.ca_flat.proofs.Simulated.{nodes_are_local_lem}
use Rattle.ca_flat.proofs.laws.nodes_are_local.Goals as goal

pub returns : goal.returns
returns c = nodes_are_local_lem
