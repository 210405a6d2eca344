use Rattle.std.proofs.Common.{arith}
use Rattle.std.proofs.lemmas.Grind.{common_steps}
use Rattle.ca_wiring.proofs.ForestLemmas.{roots_more}
use Rattle.ca_wiring.proofs.joined.Links.roots.Goals as goal

pub loop-w-preserved : goal.loop-w-preserved
loop-w-preserved c =
    let items = (c.in_ok-push.ensures {u = tt}).items in
    let old = c.loop-w.invariant in
    record {
      count = grind (arith, common_steps, items, old.count);
      are = roots_more c.args.self.now c.loop-w.roots.items c.push.new.self.items c.loop-w.w c.root_after-root.result old.count old.are c.root_after-root.ensures items;
    }
