use Rattle.std.proofs.Common.{◌≡◌, take}
use Rattle.ca_cell.specs.Raw.{output_names}
use Rattle.ca_cell.proofs.raw.RawCell.output_names.Given as goal

abbrev pub invariant-loop-pin : goal.invariant-loop-pin
invariant-loop-pin l = l.names ≡ output_names (take l.pin-index l.pin-items)
