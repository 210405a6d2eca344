use Rattle.std.proofs.Common.{rules}
use Rattle.ca_cell.specs.List.{short_of}
use Rattle.ca_cell.proofs.EachLemmas.{one_more_place}
use Rattle.ca_cell.proofs.listing.push_shorts_of.Goals as goal

pub loop-high-preserved : goal.loop-high-preserved
loop-high-preserved c =
    one_more_place (short_of c.args.inputs c.args.low) c.loop-high.high c.args.list.now c.loop-high.list c.push_short.new.list c.loop-high.invariant (search rules)
