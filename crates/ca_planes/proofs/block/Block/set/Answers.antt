use Rattle.ca_planes.proofs.ValueLemmas.{values_in-set}
use Rattle.ca_planes.proofs.block.Block.set.Goals as goal

pub returns-clause-states : goal.returns-clause-states
returns-clause-states c lane = values_in-set c.args.self.now.zeros.items c.args.self.now.ones.items c.args.node c.args.value.zero c.args.value.one lane
