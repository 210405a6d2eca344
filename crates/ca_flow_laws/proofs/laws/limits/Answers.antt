use Rattle.std.proofs.Common.{refl}
use Rattle.std.specs.Fmt.{digits}
use Rattle.ca_flow_laws.proofs.laws.limits.Goals as goal

pub returns-clause-printed : goal.returns-clause-printed
unfolding digits
returns-clause-printed c = record {
  cells = refl;
  nets = refl;
  instances = refl;
  inputs = refl;
  outputs = refl;
  defects = refl;
  chains = refl;
  pairs = refl;
}
