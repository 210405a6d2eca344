use Rattle.ca_lanes.proofs.ScreenLemmas.{waves_are_below_lane_lem}
use Rattle.ca_lanes.proofs.laws.waves_are_below_lane.Goals as goal

pub returns : goal.returns
returns c = waves_are_below_lane_lem
