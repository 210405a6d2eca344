use Rattle.ca_every_vector.proofs.InsideLemmas.{outside_is_untestable_lem}
use Rattle.ca_every_vector.proofs.laws.outside_is_untestable.Goals as goal

pub returns : goal.returns
returns c = outside_is_untestable_lem
