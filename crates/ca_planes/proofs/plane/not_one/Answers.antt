use Rattle.std.proofs.Common.{◌∙◌, ◌||◌, ◌&&◌, not, ap, arith}
use Rattle.ca_planes.specs.Plane.{has_lane}
use Rattle.ca_planes.proofs.BitLemmas.{in_all}
use Rattle.ca_planes.proofs.ValueLemmas.{not_one_decides}
use Rattle.ca_planes.proofs.plane.not_one.Goals as goal

pub returns : goal.returns
returns c lane lt =
    let z = has_lane c.args.zero lane in
    let o = has_lane c.args.one lane in
    let is = c.either.ensures.lanes lane ∙ ap (λ b. z || b) (c.except.ensures lane ∙ ap (λ b. b && not o) (in_all lane (omega arith))) in
    rw is (not_one_decides z o)
