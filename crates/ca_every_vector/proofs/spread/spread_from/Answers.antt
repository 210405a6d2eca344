use Rattle.std.proofs.Common.{arith}
use Rattle.ca_view.specs.Linked.{Reads, place_in}
use Rattle.ca_view.specs.Readers.{row_at}
use Rattle.ca_every_vector.proofs.SpreadLemmas.{reader_placed}
use Rattle.ca_every_vector.proofs.spread.spread_from.Goals as goal

pub rank-requires : goal.rank-requires
rank-requires c =
    let reads : Reads c.args.chip.now.core c.reader-w.result c.args.net =
    reader_placed c.args.chip.now.core (place_in c.args.chip.now.ranks) c.args.net (row_at c.args.chip.now.readers c.args.net) c.loop-k.k c.reader-w.result
    (c.linked.ensures.read c.args.net c.requires.known) c.reader-w.ensures in
    reads.known

pub evaluate-requires-clause-placed : goal.evaluate-requires-clause-placed
evaluate-requires-clause-placed c =
    let reads : Reads c.args.chip.now.core c.reader-w.result c.args.net =
    reader_placed c.args.chip.now.core (place_in c.args.chip.now.ranks) c.args.net (row_at c.args.chip.now.readers c.args.net) c.loop-k.k c.reader-w.result
    (c.linked.ensures.read c.args.net c.requires.known) c.reader-w.ensures in
    record { known = reads.known; placed = let some = c.if-rank-eq0.false in let e = c.rank.ensures in omega arith }
