use Rattle.ca_bridge_verdicts.proofs.BridgeLemmas.{targets_lem}
use Rattle.ca_bridge_verdicts.proofs.laws.bridges_are_targets.Goals as goal

pub returns : goal.returns
returns c = targets_lem
