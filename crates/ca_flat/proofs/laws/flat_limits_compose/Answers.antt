use Rattle.ca_flat.proofs.Simulated.{flat_limits_compose_lem}
use Rattle.ca_flat.proofs.laws.flat_limits_compose.Goals as goal

pub returns : goal.returns
returns c = flat_limits_compose_lem
