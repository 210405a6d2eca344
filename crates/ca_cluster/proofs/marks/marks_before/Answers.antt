use Rattle.std.proofs.Common.{◌-◌, arith}
use Rattle.ca_linked.proofs.OrderLemmas.{contained_at}
use Rattle.ca_cluster.proofs.CountLemmas.{ordered_count}
use Rattle.ca_cluster.proofs.MarkLemmas.{last_none, back_more, back_all}
use Rattle.ca_cluster.proofs.marks.marks_before.Goals as goal

pub order-requires : goal.order-requires
order-requires c =
    let n = ordered_count c.args.chip.now c.wired.ensures in let e = c.instances-count.ensures in let lt = c.loop-k-test.true in omega arith

pub pass_back-requires-clause-library : goal.pass_back-requires-clause-library
pass_back-requires-clause-library c =
    (c.wired.ensures.ordered.has c.order.result.0).0 (contained_at c.args.chip.now.order (c.instances-count.result - 1 - c.loop-k.k) c.order.result.0 c.order.ensures)

pub pass_back-requires-clause-room : goal.pass_back-requires-clause-room
pass_back-requires-clause-room c = let room = c.loop-k.invariant.room in let same = c.requires in omega arith

pub loop-k-init : goal.loop-k-init
loop-k-init c = last_none c.args.chip.now c.wired.ensures c.args.at.now c.in_ok-marks.marks c.parts.result (let a = c.requires in let b = c.parts.ensures in omega arith) (c.in_ok-marks.ensures {u = tt})

pub loop-k-preserved : goal.loop-k-preserved
loop-k-preserved c =
    back_more c.args.chip.now c.wired.ensures c.args.at.now c.loop-k.marks c.pass_back.new.marks c.loop-k.k (c.instances-count.result - 1 - c.loop-k.k) c.order.result.0
    (let n = ordered_count c.args.chip.now c.wired.ensures in let e = c.instances-count.ensures in let lt = c.loop-k-test.true in omega arith)
    c.order.ensures c.loop-k.invariant c.pass_back.ensures

pub returns : goal.returns
returns c =
    back_all c.args.chip.now c.wired.ensures c.args.at.now c.loop-k.marks c.loop-k.k
    (let n = ordered_count c.args.chip.now c.wired.ensures in let e = c.instances-count.ensures in let past = c.loop-k-test.false in omega arith)
    c.loop-k.invariant
