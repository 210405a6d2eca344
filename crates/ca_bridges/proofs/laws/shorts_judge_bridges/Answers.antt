use Rattle.ca_merged.proofs.Members.{cluster_is_one_lem}
use Rattle.ca_bridge_verdicts.proofs.BridgeLemmas.{good_lem}
use Rattle.ca_targets.proofs.LawLemmas.{one_cluster_lem}
use Rattle.ca_bridges.proofs.JudgedLemmas.{are_good}
use Rattle.ca_bridges.proofs.laws.shorts_judge_bridges.Goals as goal

pub returns : goal.returns
returns c = λ chip rank budget bridges targets clusters numbers task pairs aims given places verdicts is_chip all are of is_good put moved.
    are_good chip rank budget bridges targets clusters numbers task pairs aims given places verdicts is_chip all are of is_good put moved
    one_cluster_lem cluster_is_one_lem good_lem
