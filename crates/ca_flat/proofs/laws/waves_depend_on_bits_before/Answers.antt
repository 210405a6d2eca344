use Rattle.ca_flat.proofs.Leading.{waves_depend_on_bits_before_lem}
use Rattle.ca_flat.proofs.laws.waves_depend_on_bits_before.Goals as goal

pub returns : goal.returns
returns c = waves_depend_on_bits_before_lem
