use Rattle.ca_lanes.proofs.ScreenLemmas.{plain_in_lane_is_never_opposite_lem}
use Rattle.ca_lanes.proofs.laws.plain_in_lane_is_never_opposite.Goals as goal

pub returns : goal.returns
returns c = plain_in_lane_is_never_opposite_lem
