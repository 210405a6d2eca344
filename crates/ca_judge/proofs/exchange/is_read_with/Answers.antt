use Rattle.std.proofs.Common.{arith}
use Rattle.ca_sim.proofs.Marking.{listed_reads}
use Rattle.ca_view.specs.Readers.{row_at}
use Rattle.ca_judge.proofs.exchange.is_read_with.Goals as goal

pub overflow_cast-reader : goal.overflow_cast-reader
overflow_cast-reader c =
    let reads = listed_reads c.args.view.now.core c.args.net (row_at c.args.view.now.readers c.args.net) c.loop-k.k c.reader.result
    (c.linked.ensures.read c.args.net c.requires) c.reader.ensures in
    let known = reads.known in
    let few = c.linked.ensures.linked.few in
    omega (arith, known, few)

pub input_pins-requires : goal.input_pins-requires
input_pins-requires c =
    let reads = listed_reads c.args.view.now.core c.args.net (row_at c.args.view.now.readers c.args.net) c.loop-k.k c.reader.result
    (c.linked.ensures.read c.args.net c.requires) c.reader.ensures in
    let known = reads.known in
    let count = c.linked.ensures.nets.input_count in
    omega (arith, known, count)
