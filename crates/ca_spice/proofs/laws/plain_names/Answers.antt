use Rattle.ca_spice.proofs.PlainLemmas.{plain_names}
use Rattle.ca_spice.proofs.laws.plain_names.Goals as goal

pub returns : goal.returns
returns c = plain_names
