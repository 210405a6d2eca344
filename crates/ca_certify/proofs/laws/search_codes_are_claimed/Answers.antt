use Rattle.ca_certify.proofs.CodeLemmas.{search_codes_are_claimed_lem}
use Rattle.ca_certify.proofs.laws.search_codes_are_claimed.Goals as goal

pub returns : goal.returns
returns c = search_codes_are_claimed_lem
