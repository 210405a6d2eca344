use Rattle.ca_stil_laws.proofs.NameLemmas.{ports_named}
use Rattle.ca_stil_laws.proofs.names.ports_are_named.Goals as goal

pub returns : goal.returns
returns c = ports_named c.names_are_plain.ensures c.read_text_has_tree.ensures
