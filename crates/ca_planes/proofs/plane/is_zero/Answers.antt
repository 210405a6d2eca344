use Rattle.std.proofs.Common.{◌∙◌, ◌&&◌, not, ap, arith}
use Rattle.ca_planes.specs.Plane.{has_lane}
use Rattle.ca_planes.proofs.BitLemmas.{in_all}
use Rattle.ca_planes.proofs.ValueLemmas.{zero_decides}
use Rattle.ca_planes.proofs.plane.is_zero.Goals as goal

pub returns : goal.returns
returns c z lane lt =
    let is = c.except.ensures lane ∙ ap (λ b. b && not (has_lane c.args.one lane)) (in_all lane (omega arith)) in
    rw is (zero_decides (has_lane z lane) (has_lane c.args.one lane))
