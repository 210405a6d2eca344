use Rattle.ca_code.proofs.RuleLemmas.{search_codes_are_codes_lem}
use Rattle.ca_code.proofs.laws.search_codes_are_codes.Goals as goal

pub returns : goal.returns
returns c = search_codes_are_codes_lem
