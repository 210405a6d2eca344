use Rattle.ca_cluster.proofs.ClusterLemmas.{merged_is_for_lem}
use Rattle.ca_cluster.proofs.laws.merged_is_for.Goals as goal

pub returns : goal.returns
returns c = merged_is_for_lem
