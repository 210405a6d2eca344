use Rattle.ca_search.proofs.EndLemmas.{outcome_is_search_lem}
use Rattle.ca_search.proofs.laws.outcome_is_search.Goals as goal

pub returns : goal.returns
returns c = outcome_is_search_lem
