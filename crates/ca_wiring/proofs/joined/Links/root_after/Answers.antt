use Rattle.ca_wiring.proofs.ForestLemmas.{root_after, root_own}
use Rattle.ca_wiring.proofs.joined.Links.root_after.Goals as goal

pub returns-then-next-w : goal.returns-then-next-w
returns-then-next-w c = root_after c.args.self.now c.args.roots.now c.args.w c.parent-next.result c.parent-next.ensures c.requires.are c.if-next-w.true

pub returns-else-next-w : goal.returns-else-next-w
returns-else-next-w c = root_own c.args.self.now c.args.w c.parent-next.result c.requires.back c.parent-next.ensures c.if-next-w.false
