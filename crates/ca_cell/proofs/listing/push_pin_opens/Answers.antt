use Rattle.std.proofs.Common.{rules}
use Rattle.ca_cell.specs.List.{pin_open}
use Rattle.ca_cell.proofs.EachLemmas.{one_more_place}
use Rattle.ca_cell.proofs.listing.push_pin_opens.Goals as goal

pub loop-before-preserved : goal.loop-before-preserved
loop-before-preserved c =
    one_more_place pin_open c.loop-before.before c.args.list.now c.loop-before.list c.push.new.self c.loop-before.invariant (search rules)
