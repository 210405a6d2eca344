use Rattle.ca_flat.proofs.Filled.{detected_is_exposable_lem}
use Rattle.ca_flat.proofs.laws.detected_is_exposable.Goals as goal

pub returns : goal.returns
returns c = detected_is_exposable_lem
