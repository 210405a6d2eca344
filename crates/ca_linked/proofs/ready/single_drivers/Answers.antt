use Rattle.ca_linked.proofs.ReadyLemmas.{are_single}
use Rattle.ca_linked.proofs.ready.single_drivers.Goals as goal

pub returns : goal.returns
returns c = are_single c.args.draft.now c.in_ok-drivers.drivers c.in_ok-drivers.ensures c.requires.driven
