use Rattle.ca_response.proofs.GivesLemmas.{given_is_response_lem}
use Rattle.ca_response.proofs.laws.given_is_response.Goals as goal

pub returns : goal.returns
returns c = given_is_response_lem
