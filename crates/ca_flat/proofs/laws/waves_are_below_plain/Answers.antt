use Rattle.ca_flat.proofs.PlainAbove.{waves_are_below_plain_lem}
use Rattle.ca_flat.proofs.laws.waves_are_below_plain.Goals as goal

pub returns : goal.returns
returns c = waves_are_below_plain_lem
