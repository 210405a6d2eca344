use Rattle.ca_syntax.proofs.NetlistLemmas.{right_read}
use Rattle.ca_syntax.proofs.laws.right_tree_is_read.Goals as goal

pub returns : goal.returns
returns c = right_read
