use Rattle.ca_diag.proofs.LawLemmas.{one_list}
use Rattle.ca_diag.proofs.laws.candidates_are_one.Goals as goal

pub returns : goal.returns
returns c = one_list
