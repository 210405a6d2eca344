use Rattle.ca_merge.proofs.MergeLemmas.{ports_more}
use Rattle.ca_merge.proofs.draft.ports_of.Goals as goal

pub loop-p-preserved : goal.loop-p-preserved
loop-p-preserved c =
    ports_more c.args.chip.now.ports c.loop-p.ports.items c.push.new.self.items c.loop-p.p c.port.result.now c.in_ok-port.port c.port.ensures
    (c.in_ok-port.ensures {u = tt}) c.loop-p.invariant ((c.in_ok-push.ensures {u = tt}).items)
