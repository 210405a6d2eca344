use Rattle.ca_certify.proofs.VerdictLemmas.{standing_is_yes_lem}
use Rattle.ca_certify.proofs.laws.standing_is_yes.Goals as goal

pub returns : goal.returns
returns c = standing_is_yes_lem
