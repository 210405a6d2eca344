use Rattle.ca_flat.proofs.Undriven.{undriven_is_unknown_lem}
use Rattle.ca_flat.proofs.laws.undriven_is_unknown.Goals as goal

pub returns : goal.returns
returns c = undriven_is_unknown_lem
