use Rattle.ca_cluster.proofs.ClusterLemmas.{members_can_merge_lem}
use Rattle.ca_cluster.proofs.laws.members_can_merge.Goals as goal

pub returns : goal.returns
returns c = members_can_merge_lem
