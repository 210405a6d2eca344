use Rattle.std.proofs.Common.{◌∙◌, arith, ap}
use Rattle.std.proofs.lemmas.Bool.{eqb-true, eq-eqb}
use Rattle.ca_planes.specs.Plane.{has_lane}
use Rattle.ca_planes.proofs.BitLemmas.{in_none, none_in}
use Rattle.ca_planes.proofs.plane.is_none.Goals as goal

pub returns : goal.returns
returns c = (
  λ is lane lt. ap (λ w. has_lane w lane) (eqb-true c.args.plane 0 is) ∙ in_none lane,
  λ none. eq-eqb c.args.plane 0 (none_in c.args.plane (omega (arith, c.ranges.plane.fits)) none),
)
