use Rattle.std.proofs.Common.{◌==◌, ap}
use Rattle.std.proofs.lemmas.Nat.Bits.{shr_and_one}
use Rattle.ca_planes.specs.Plane.{has_lane}
use Rattle.ca_planes.proofs.plane.has.Goals as goal

pub returns : goal.returns
unfolding has_lane
returns c = ap (λ n. n == 1) (shr_and_one c.args.plane c.args.lane)
