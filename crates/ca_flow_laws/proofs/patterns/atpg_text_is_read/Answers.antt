use Rattle.ca_flow_laws.proofs.PatternLemmas.{text_is_read}
use Rattle.ca_flow_laws.proofs.patterns.atpg_text_is_read.Goals as goal

pub returns : goal.returns
returns c = text_is_read c.chip_text_is_read.ensures c.ports_are_named.ensures c.written_chip_is_read_back.ensures
