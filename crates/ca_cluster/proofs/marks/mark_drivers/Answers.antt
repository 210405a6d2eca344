use Rattle.std.proofs.Common.{arith}
use Rattle.ca_linked.specs.Linked.{net_count}
use Rattle.ca_cluster.specs.code.Ends.{IsOnOutput}
use Rattle.ca_cluster.specs.code.Marks.{ByNet}
use Rattle.ca_cluster.proofs.SpreadLemmas.{spread_none, net_none, net_here, driver_within, drivers_spread, count_end}
use Rattle.ca_cluster.proofs.marks.mark_drivers.Goals as goal

pub gate_on-requires : goal.gate_on-requires
gate_on-requires c = net_here c.args.nets.now c.loop-k.k c.get.result (net_count c.args.chip.now) c.requires.on_nets c.get.ensures

pub mark_if-requires : goal.mark_if-requires
mark_if-requires c = λ x e.
    let lt = driver_within c.args.chip.now c.get.result x ((c.gate_on.ensures x).0 e) in
    let room = c.loop-k.invariant.room in let same = c.requires.room in omega arith

pub loop-k-init : goal.loop-k-init
loop-k-init c = spread_none (ByNet (IsOnOutput c.args.chip.now) c.args.nets.now 0) c.args.marks.now (net_none (IsOnOutput c.args.chip.now) c.args.nets.now)

pub loop-k-preserved : goal.loop-k-preserved
loop-k-preserved c =
    drivers_spread c.args.chip.now c.args.nets.now c.loop-k.k c.get.result c.gate_on.result c.args.marks.now c.loop-k.marks c.mark_if.new.marks
    c.get.ensures c.gate_on.ensures c.loop-k.invariant c.mark_if.ensures

pub returns : goal.returns
returns c =
    count_end (IsOnOutput c.args.chip.now) c.args.nets.now c.loop-k.k c.args.marks.now c.loop-k.marks
    (let past = c.loop-k-test.false in let end = c.loop-k.auto.k-end in let count = c.len-k-end.ensures in omega arith) c.loop-k.invariant
