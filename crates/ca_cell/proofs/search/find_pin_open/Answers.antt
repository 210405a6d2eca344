use Rattle.std.proofs.Common.{arith}
use Rattle.ca_cell.specs.Raw.{is_input, role_count}
use Rattle.ca_cell.specs.List.{pin_open}
use Rattle.ca_cell.specs.Name.{is_called}
use Rattle.ca_cell.proofs.EachLemmas.{found_at_place, place_passed}
use Rattle.ca_cell.proofs.search.find_pin_open.Goals as goal

pub returns-then-is_some : goal.returns-then-is_some
returns-then-is_some c =
    found_at_place (is_called c.args.cell.now c.args.text.now) pin_open c.loop-before.before c.inputs-before-end.result (role_count is_input c.args.cell.now.pins) (omega arith)
    c.inputs-before-end.ensures.count c.loop-before.invariant c.if_called-found.result c.if_called-found.ensures cc

pub loop-before-preserved : goal.loop-before-preserved
loop-before-preserved c =
    place_passed (is_called c.args.cell.now c.args.text.now) pin_open c.loop-before.before c.inputs-before-end.result (omega arith)
    c.loop-before.invariant c.if_called-found.result c.if_called-found.ensures cc
