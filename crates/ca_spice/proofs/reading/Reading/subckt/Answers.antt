use Rattle.ca_spice.proofs.ReadingLemmas.{first_upper}
use Rattle.ca_spice.proofs.reading.Reading.subckt.Goals as goal

pub named-requires-clause-upper : goal.named-requires-clause-upper
named-requires-clause-upper c = first_upper c.args.words.now _ c.requires c.in-len1-up.len_at_least
