use Rattle.ca_diag.proofs.LawLemmas.{cause_stands}
use Rattle.ca_diag.proofs.laws.cause_is_candidate.Goals as goal

pub returns : goal.returns
returns c = cause_stands
