use Rattle.ca_targets.proofs.LawLemmas.{one_cluster_lem}
use Rattle.ca_targets.proofs.laws.one_cluster.Goals as goal

pub returns : goal.returns
returns c = one_cluster_lem
