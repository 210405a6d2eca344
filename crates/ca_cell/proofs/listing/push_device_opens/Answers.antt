use Rattle.std.proofs.Common.{rules}
use Rattle.ca_cell.specs.Raw.{circuit_of}
use Rattle.ca_cell.specs.List.{device_opens}
use Rattle.ca_cell.proofs.EachLemmas.{one_more_place}
use Rattle.ca_cell.proofs.listing.push_device_opens.Goals as goal

pub loop-place-preserved : goal.loop-place-preserved
loop-place-preserved c =
    one_more_place (device_opens (circuit_of c.args.cell.now).devices) c.loop-place.place c.args.list.now c.loop-place.list c.push_opens_of.new.list c.loop-place.invariant (search rules)
