use Rattle.ca_lanes.proofs.ScreenLemmas.{set_bit_is_allowed_lem}
use Rattle.ca_lanes.proofs.laws.set_bit_is_allowed.Goals as goal

pub returns : goal.returns
returns c = set_bit_is_allowed_lem
