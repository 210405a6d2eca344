use Rattle.ca_flips.proofs.FaultyLemmas.{faulty_last_is_given_lem}
use Rattle.ca_flips.proofs.laws.faulty_last_is_given.Goals as goal

pub returns : goal.returns
returns c = faulty_last_is_given_lem
