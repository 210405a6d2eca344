use Rattle.std.proofs.Common.{sym, ◌∙◌, eq-eqb}
use Rattle.std.proofs.lemmas.Bool.{ne_eqb}
use Rattle.ca_planes.proofs.BitLemmas.{in_all, in_none}
use Rattle.ca_every_vector.proofs.lane_region.high_lanes.Goals as goal

pub returns-then-number-after-eq1 : goal.returns-then-number-after-eq1
returns-then-number-after-eq1 c = λ lane low. in_all lane low ∙ sym (eq-eqb _ 1 c.if-number-after-eq1.true)

pub returns-else-number-after-eq1 : goal.returns-else-number-after-eq1
returns-else-number-after-eq1 c = λ lane low. in_none lane ∙ sym (ne_eqb _ 1 c.if-number-after-eq1.false)
