use Rattle.std.proofs.Common.{◌∙◌, sym, ap, length}
use Rattle.ca_pair.proofs.BitLemmas.{length-bits_from}
use Rattle.ca_pair.proofs.pair.Pair.len.Goals as goal

pub returns : goal.returns
returns c = sym (length-bits_from c.self.inside.words.items 0 c.self.inside.len) ∙ ap length c.self.view_is
