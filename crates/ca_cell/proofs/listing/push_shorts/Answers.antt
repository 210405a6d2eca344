use Rattle.std.proofs.Common.{rules}
use Rattle.ca_cell.specs.List.{shorts_of}
use Rattle.ca_cell.proofs.EachLemmas.{one_more_place}
use Rattle.ca_cell.proofs.listing.push_shorts.Goals as goal

pub loop-low-preserved : goal.loop-low-preserved
loop-low-preserved c =
    one_more_place (shorts_of c.args.nodes c.args.inputs) c.loop-low.low c.args.list.now c.loop-low.list c.push_shorts_of.new.list c.loop-low.invariant (search rules)
