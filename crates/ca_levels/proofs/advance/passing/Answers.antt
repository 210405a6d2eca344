use Rattle.std.proofs.Common.{arith}
use Rattle.ca_planes.specs.Trits.{value_in}
use Rattle.ca_planes.proofs.BitLemmas.{in_all}
use Rattle.ca_levels.proofs.AdvanceLemmas.{always_passes}
use Rattle.ca_levels.proofs.advance.passing.Goals as goal

pub returns-in-D-default : goal.returns-in-D-default
returns-in-D-default c lane lt = (
  λ has. always_passes c.args.kind c.args.device (value_in c.args.zero c.args.one lane) c.in-D-default.is-0,
  λ passes. in_all lane (omega arith),
)
