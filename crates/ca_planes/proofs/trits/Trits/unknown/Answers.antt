use Rattle.std.proofs.Common.{arith, ap}
use Rattle.ca_planes.specs.Trits.{trit_for}
use Rattle.ca_planes.proofs.BitLemmas.{in_all}
use Rattle.ca_planes.proofs.trits.Trits.unknown.Goals as goal

pub returns : goal.returns
returns c lane lt = ap (λ b. trit_for b b) (in_all lane (omega arith))
