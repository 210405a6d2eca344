use Rattle.ca_syntax.proofs.FoundLemmas.{tree_right, large_right}
use Rattle.ca_syntax.proofs.laws.read_tree_is_right.Goals as goal

pub returns : goal.returns
returns c = record { read = tree_right; large = large_right }
