use Rattle.ca_planes.proofs.BitLemmas.{in_both}
use Rattle.ca_planes.proofs.plane.both.Goals as goal

pub returns : goal.returns
returns c lane = in_both c.args.a c.args.b lane
