use Rattle.ca_generate.proofs.PairLemmas.{too_many}
use Rattle.ca_generate.proofs.laws.too_many_needs_exposable.Goals as goal

pub returns : goal.returns
returns c = too_many
