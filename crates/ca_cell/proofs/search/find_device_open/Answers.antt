use Rattle.std.proofs.Common.{length, arith}
use Rattle.ca_cell.specs.Raw.{circuit_of}
use Rattle.ca_cell.specs.List.{device_opens}
use Rattle.ca_cell.specs.Name.{is_called}
use Rattle.ca_cell.proofs.EachLemmas.{found_at_place, place_passed}
use Rattle.ca_cell.proofs.search.find_device_open.Goals as goal

pub returns-then-is_some : goal.returns-then-is_some
returns-then-is_some c =
    found_at_place (is_called c.args.cell.now c.args.text.now) (device_opens (circuit_of c.args.cell.now).devices) c.loop-place.place c.device_count-place-end.result (length (circuit_of c.args.cell.now).devices) (omega arith)
    c.device_count-place-end.ensures.count c.loop-place.invariant c.find_open_of-found.result c.find_open_of-found.ensures cc

pub loop-place-preserved : goal.loop-place-preserved
loop-place-preserved c =
    place_passed (is_called c.args.cell.now c.args.text.now) (device_opens (circuit_of c.args.cell.now).devices) c.loop-place.place c.device_count-place-end.result (omega arith)
    c.loop-place.invariant c.find_open_of-found.result c.find_open_of-found.ensures cc
