use Rattle.std.proofs.Common.{◌-◌, sym, ◌∙◌, arith}
use Rattle.ca_linked.proofs.LoopLemmas.{back_none, back_pushed}
use Rattle.ca_linked.proofs.order.Walk.back_to.Goals as goal

pub loop-k-init : goal.loop-k-init
loop-k-init c = c.new-back.ensures.items ∙ sym (back_none c.args.self.now.trail (c.trail_len-count.result - 0))

pub loop-k-preserved : goal.loop-k-preserved
loop-k-preserved c =
    (c.in_ok-push.ensures {u = tt}).items
    ∙ back_pushed c.args.self.now.trail c.trail_len-count.result c.loop-k.k c.instance_at.result c.loop-k.back.items (let lt = c.loop-k-test.true in omega arith)
    c.instance_at.ensures c.loop-k.invariant
