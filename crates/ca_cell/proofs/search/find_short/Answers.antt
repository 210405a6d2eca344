use Rattle.std.proofs.Common.{length, arith}
use Rattle.ca_cell.specs.Raw.{is_input, role_count, circuit_of}
use Rattle.ca_cell.specs.List.{shorts_of}
use Rattle.ca_cell.specs.Name.{is_called}
use Rattle.ca_cell.proofs.EachLemmas.{found_at_place, place_passed}
use Rattle.ca_cell.proofs.search.find_short.Goals as goal

pub returns-then-is_some : goal.returns-then-is_some
returns-then-is_some c =
    found_at_place (is_called c.args.cell.now c.args.text.now) (shorts_of (length (circuit_of c.args.cell.now).nodes) (role_count is_input c.args.cell.now.pins)) c.loop-low.low c.node_count-low-end.result (length (circuit_of c.args.cell.now).nodes) (omega arith)
    c.node_count-low-end.ensures.count c.loop-low.invariant c.find_short_of-found.result c.find_short_of-found.ensures cc

pub loop-low-preserved : goal.loop-low-preserved
loop-low-preserved c =
    place_passed (is_called c.args.cell.now c.args.text.now) (shorts_of (length (circuit_of c.args.cell.now).nodes) (role_count is_input c.args.cell.now.pins)) c.loop-low.low c.node_count-low-end.result (omega arith)
    c.loop-low.invariant c.find_short_of-found.result c.find_short_of-found.ensures cc
