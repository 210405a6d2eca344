use Rattle.std.proofs.Common.{length, arith}
use Rattle.ca_cell.specs.Raw.{is_input, role_count, circuit_of}
use Rattle.ca_cell.specs.List.{short_of}
use Rattle.ca_cell.specs.Name.{is_called}
use Rattle.ca_cell.proofs.EachLemmas.{found_at_place, place_passed}
use Rattle.ca_cell.proofs.search.find_short_of.Goals as goal

pub returns-then-is_some : goal.returns-then-is_some
returns-then-is_some c =
    found_at_place (is_called c.args.cell.now c.args.text.now) (short_of (role_count is_input c.args.cell.now.pins) c.args.low) c.loop-high.high c.node_count-high-end.result (length (circuit_of c.args.cell.now).nodes) (omega arith)
    c.node_count-high-end.ensures.count c.loop-high.invariant c.find_short_at-found.result c.find_short_at-found.ensures cc

pub loop-high-preserved : goal.loop-high-preserved
loop-high-preserved c =
    place_passed (is_called c.args.cell.now c.args.text.now) (short_of (role_count is_input c.args.cell.now.pins) c.args.low) c.loop-high.high c.node_count-high-end.result (omega arith)
    c.loop-high.invariant c.find_short_at-found.result c.find_short_at-found.ensures cc
