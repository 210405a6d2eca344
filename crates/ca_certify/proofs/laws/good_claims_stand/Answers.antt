use Rattle.ca_certify.proofs.VerdictLemmas.{good_claims_stand_lem}
use Rattle.ca_certify.proofs.laws.good_claims_stand.Goals as goal

pub returns : goal.returns
returns c = good_claims_stand_lem
