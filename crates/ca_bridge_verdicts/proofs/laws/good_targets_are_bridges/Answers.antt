use Rattle.ca_bridge_verdicts.proofs.BridgeLemmas.{good_lem}
use Rattle.ca_bridge_verdicts.proofs.laws.good_targets_are_bridges.Goals as goal

pub returns : goal.returns
returns c = good_lem
