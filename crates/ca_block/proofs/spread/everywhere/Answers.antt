use Rattle.std.proofs.Common.{◌∙◌, true, sym, ap, arith}
use Rattle.ca_planes.specs.Plane.{has_lane}
use Rattle.ca_planes.specs.Trits.{trit_for}
use Rattle.ca_planes.proofs.BitLemmas.{in_all, in_none}
use Rattle.ca_block.proofs.spread.everywhere.Goals as goal

pub returns-in-Zero : goal.returns-in-Zero
returns-in-Zero c lane low =
    ap (λ z. trit_for z (has_lane 0 lane)) (in_all lane (omega (arith, low))) ∙ ap (trit_for true) (in_none lane) ∙ sym c.in-Zero.is

pub returns-in-One : goal.returns-in-One
returns-in-One c lane low =
    ap (λ o. trit_for (has_lane 0 lane) o) (in_all lane (omega (arith, low))) ∙ ap (λ z. trit_for z true) (in_none lane) ∙ sym c.in-One.is
