use Rattle.std.proofs.Common.{◌≡◌, take, map}
use Rattle.ca_cell.specs.Name.{name_of}
use Rattle.ca_cell.proofs.names.defect_names.Given as goal

abbrev pub invariant-loop-defect : goal.invariant-loop-defect
invariant-loop-defect l = l.names ≡ map (name_of l.cell) (take l.defect-index l.list)
