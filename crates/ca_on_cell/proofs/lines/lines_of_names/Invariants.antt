use Rattle.std.proofs.Common.{◌≡◌, take, flat_map}
use Rattle.ca_on_cell.specs.Lines.{line_of_name}
use Rattle.ca_on_cell.proofs.lines.lines_of_names.Given as goal

abbrev pub invariant-loop-name : goal.invariant-loop-name
invariant-loop-name l = l.text ≡ flat_map line_of_name (take l.name-index l.names)
