use Rattle.std.proofs.Common.{◌≡◌, take, flat_map}
use Rattle.ca_on_cell.specs.Lines.{line_of_pin}
use Rattle.ca_on_cell.proofs.pin_values.lines_of_values.Given as goal

abbrev pub invariant-loop-value : goal.invariant-loop-value
invariant-loop-value l = l.text ≡ flat_map line_of_pin (take l.value-index l.values)
