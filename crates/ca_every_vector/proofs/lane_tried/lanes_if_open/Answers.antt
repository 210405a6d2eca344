use Rattle.ca_every_vector.specs.Inside.{AllStayInside}
use Rattle.ca_every_vector.specs.code.Lanes.{values_of}
use Rattle.ca_every_vector.proofs.LaneSpreadLemmas.{no_lanes}
use Rattle.ca_every_vector.proofs.lane_tried.lanes_if_open.Goals as goal

pub returns-then-not-is_open-clause-stay : goal.returns-then-not-is_open-clause-stay
returns-then-not-is_open-clause-stay c = no_lanes (λ lane. AllStayInside c.args.chip.now.core c.args.u (values_of c.args.values.now lane))
