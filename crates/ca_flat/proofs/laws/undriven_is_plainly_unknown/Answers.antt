use Rattle.ca_flat.proofs.UndrivenRows.{undriven_is_plainly_unknown_lem}
use Rattle.ca_flat.proofs.laws.undriven_is_plainly_unknown.Goals as goal

pub returns : goal.returns
returns c = undriven_is_plainly_unknown_lem
