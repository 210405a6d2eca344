use Rattle.ca_syntax.proofs.FoundLemmas.{large_has_tree}
use Rattle.ca_syntax.proofs.laws.large_text_has_tree.Goals as goal

pub returns : goal.returns
returns c = large_has_tree
