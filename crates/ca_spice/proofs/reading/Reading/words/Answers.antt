use Rattle.ca_spice.proofs.ReadingLemmas.{after_upper}
use Rattle.ca_spice.proofs.reading.Reading.words.Goals as goal

pub card-requires : goal.card-requires
card-requires c = after_upper c.args.words.now c.requires c.in-len1-up.len_at_least
