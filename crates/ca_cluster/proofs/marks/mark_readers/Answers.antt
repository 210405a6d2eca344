use Rattle.std.proofs.Common.{arith}
use Rattle.ca_linked.specs.Linked.{net_count}
use Rattle.ca_linked.specs.Reading.{Reads}
use Rattle.ca_cluster.specs.code.Marks.{ByNet}
use Rattle.ca_cluster.proofs.SpreadLemmas.{spread_none, net_none, net_here, readers_within, readers_spread, count_end}
use Rattle.ca_cluster.proofs.marks.mark_readers.Goals as goal

pub readers-requires : goal.readers-requires
readers-requires c = net_here c.args.nets.now c.loop-k.k c.get.result (net_count c.args.chip.now) c.requires.on_nets c.get.ensures

pub mark_all-requires : goal.mark_all-requires
mark_all-requires c =
    readers_within c.args.chip.now c.get.result c.readers.result.now c.as_slice.result.now c.loop-k.marks
    (let room = c.loop-k.invariant.room in let same = c.requires.room in omega arith) c.readers.ensures c.as_slice.ensures

pub loop-k-init : goal.loop-k-init
loop-k-init c = spread_none (ByNet (λ net x. Reads c.args.chip.now x net) c.args.nets.now 0) c.args.marks.now (net_none (λ net x. Reads c.args.chip.now x net) c.args.nets.now)

pub loop-k-preserved : goal.loop-k-preserved
loop-k-preserved c =
    readers_spread c.args.chip.now c.args.nets.now c.loop-k.k c.get.result c.readers.result.now c.as_slice.result.now c.args.marks.now c.loop-k.marks c.mark_all.new.self
    (let room = c.loop-k.invariant.room in let same = c.requires.room in omega arith)
    c.get.ensures c.readers.ensures c.as_slice.ensures c.loop-k.invariant c.mark_all.ensures

pub returns : goal.returns
returns c =
    count_end (λ net x. Reads c.args.chip.now x net) c.args.nets.now c.loop-k.k c.args.marks.now c.loop-k.marks
    (let past = c.loop-k-test.false in let end = c.loop-k.auto.k-end in let count = c.len-k-end.ensures in omega arith) c.loop-k.invariant
