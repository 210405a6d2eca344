use Rattle.ca_targets.proofs.ListLemmas.{contains_at}
use Rattle.ca_bridges_tests.proofs.judging.put_all.Goals as goal

pub put_bridge-requires : goal.put_bridge-requires
put_bridge-requires c = c.requires c.get.result (contains_at c.args.list.now c.loop-k.k c.get.result c.get.ensures)
