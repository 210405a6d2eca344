use Rattle.ca_syntax.proofs.FoundLemmas.{text_has_tree}
use Rattle.ca_syntax.proofs.laws.read_text_has_tree.Goals as goal

pub returns : goal.returns
returns c = text_has_tree
