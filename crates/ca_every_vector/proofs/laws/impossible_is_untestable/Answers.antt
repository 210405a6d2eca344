use Rattle.ca_every_vector.proofs.LawLemmas.{impossible_is_untestable_lem}
use Rattle.ca_every_vector.proofs.laws.impossible_is_untestable.Goals as goal

pub returns : goal.returns
returns c = impossible_is_untestable_lem
