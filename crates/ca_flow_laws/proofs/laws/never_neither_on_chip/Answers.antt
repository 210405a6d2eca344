use Rattle.ca_flow_laws.proofs.NeitherLemmas.{never_neither}
use Rattle.ca_flow_laws.proofs.laws.never_neither_on_chip.Goals as goal

pub returns : goal.returns
returns c = never_neither c.ports_are_named.ensures c.text_of_linked_chip_is_file.ensures
