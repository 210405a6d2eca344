use Rattle.ca_planes.specs.Plane.{has_lane}
use Rattle.ca_planes.proofs.ValueLemmas.{one_decides}
use Rattle.ca_planes.proofs.plane.is_one.Goals as goal

pub returns : goal.returns
returns c lane = rw (c.except.ensures lane) (one_decides (has_lane c.args.zero lane) (has_lane c.args.one lane))
