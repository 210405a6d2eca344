use Rattle.ca_pair.proofs.BitLemmas.{no_bits}
use Rattle.ca_pair.proofs.pair.Pair.new.Goals as goal

pub returns : goal.returns
returns c = no_bits c.new.result.items
