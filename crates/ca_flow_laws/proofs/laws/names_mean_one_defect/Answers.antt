use Rattle.ca_flow_laws.proofs.NameLemmas.{one_defect}
use Rattle.ca_flow_laws.proofs.laws.names_mean_one_defect.Goals as goal

pub returns : goal.returns
returns c = one_defect
