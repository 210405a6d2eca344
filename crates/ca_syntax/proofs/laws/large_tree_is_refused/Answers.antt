use Rattle.ca_syntax.proofs.NetlistLemmas.{large_refused}
use Rattle.ca_syntax.proofs.laws.large_tree_is_refused.Goals as goal

pub returns : goal.returns
returns c = large_refused
