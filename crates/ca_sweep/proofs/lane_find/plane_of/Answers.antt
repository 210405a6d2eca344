use Rattle.std.proofs.Common.{sym, ◌∙◌}
use Rattle.ca_planes.proofs.BitLemmas.{in_all, in_none}
use Rattle.ca_sweep.proofs.lane_find.plane_of.Goals as goal

pub returns-then-is : goal.returns-then-is
returns-then-is c = λ lane within. in_all lane within ∙ sym c.if-is.true

pub returns-else-is : goal.returns-else-is
returns-else-is c = λ lane within. in_none lane ∙ sym c.if-is.false
