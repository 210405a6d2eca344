use Rattle.std.proofs.Common.{◌∙◌, true, false, sym, ap}
use Rattle.ca_planes.specs.Plane.{has_lane}
use Rattle.ca_planes.specs.Trits.{trit_for}
use Rattle.ca_planes.proofs.BitLemmas.{in_all, in_none}
use Rattle.ca_every_vector.proofs.wanted.in_all.Goals as goal

pub returns-in-Zero : goal.returns-in-Zero
returns-in-Zero c = λ lane low. ap (λ b. trit_for b (has_lane 0 lane)) (in_all lane low) ∙ ap (trit_for true) (in_none lane) ∙ sym c.in-Zero.is

pub returns-in-One : goal.returns-in-One
returns-in-One c = λ lane low. ap (λ b. trit_for b (has_lane 18446744073709551615 lane)) (in_none lane) ∙ ap (trit_for false) (in_all lane low) ∙ sym c.in-One.is
