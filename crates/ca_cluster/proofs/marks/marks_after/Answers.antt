use Rattle.std.proofs.Common.{arith}
use Rattle.ca_linked.proofs.OrderLemmas.{contained_at}
use Rattle.ca_cluster.proofs.CountLemmas.{ordered_count}
use Rattle.ca_cluster.proofs.MarkLemmas.{first_none, onward_more, onward_all}
use Rattle.ca_cluster.proofs.marks.marks_after.Goals as goal

pub order-requires : goal.order-requires
order-requires c =
    let n = ordered_count c.args.chip.now c.wired.ensures in let e = c.instances-k-end.ensures in let lt = c.loop-k-test.true in omega arith

pub pass_on-requires-clause-library : goal.pass_on-requires-clause-library
pass_on-requires-clause-library c = (c.wired.ensures.ordered.has c.order.result.0).0 (contained_at c.args.chip.now.order c.loop-k.k c.order.result.0 c.order.ensures)

pub pass_on-requires-clause-room : goal.pass_on-requires-clause-room
pass_on-requires-clause-room c = let room = c.loop-k.invariant.room in let same = c.requires in omega arith

pub loop-k-init : goal.loop-k-init
loop-k-init c = first_none c.args.chip.now c.wired.ensures c.args.at.now c.in_ok-marks.marks c.parts.result (let a = c.requires in let b = c.parts.ensures in omega arith) (c.in_ok-marks.ensures {u = tt})

pub loop-k-preserved : goal.loop-k-preserved
loop-k-preserved c =
    onward_more c.args.chip.now c.wired.ensures c.args.at.now c.loop-k.marks c.pass_on.new.marks c.loop-k.k c.order.result.0 c.order.ensures c.loop-k.invariant c.pass_on.ensures

pub returns : goal.returns
returns c =
    onward_all c.args.chip.now c.wired.ensures c.args.at.now c.loop-k.marks c.loop-k.k
    (let n = ordered_count c.args.chip.now c.wired.ensures in let e = c.instances-k-end.ensures in let past = c.loop-k-test.false in omega arith)
    c.loop-k.invariant
