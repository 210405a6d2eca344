-- What is counted of a link, and the first limit that it passes. Only the proofs of the code cite this.
use Rattle.std.specs.Prelude.{ℕ, List, length, Option, Some, None, nat_lt, if◌then◌else◌}
use Rattle.std.specs.List.{sum_by}
use Rattle.ca_cell.specs.declared.raw.RawCell.{RawCell}
use Rattle.ca_cell.specs.Nodes.{defect_count}
use Rattle.ca_wiring.specs.declared.fault.ChipFault.{ChipFault}
use Rattle.ca_wiring.specs.declared.fault.ChipFault.TheVariants as fault
use Rattle.ca_wiring.specs.declared.fault.TheConstants.{MOST_INSTANCES, MOST_CHIP_INPUTS, MOST_CHIP_OUTPUTS}
use Rattle.ca_wiring.specs.declared.fault.TheConstants.{MOST_CHIP_DEFECTS}
use Rattle.ca_linked.specs.declared.parts.Body.{Body}
use Rattle.ca_linked.specs.declared.parts.Body.TheVariants.{Gate, Scan}
use Rattle.ca_linked.specs.Linked.{LinkedChip, cell_of, inputs_of, outputs_of}
use Rattle.ca_linked.specs.Instances.{gates_of}

-- the number of defects of an instance
abbrev pub body_defects : List RawCell → Body → ℕ
body_defects cells (Gate cell inputs outputs) = defect_count (cell_of cells cell)
body_defects cells (Scan nets) = 0

-- the number of defects of a chip: those of all its library instances
abbrev pub chip_defects : LinkedChip → ℕ
chip_defects chip = sum_by (λ part. body_defects chip.cells part.body) chip.parts

-- the first limit that a chip passes, with the quantity that is counted: library instances, chip inputs,
-- observed outputs, and this many defects
abbrev pub first_limit : LinkedChip → ℕ → Option ChipFault
first_limit chip defects =
    if nat_lt MOST_INSTANCES (length (gates_of chip))
    then Some (fault.TooManyInstances (length (gates_of chip)))
    else (if nat_lt MOST_CHIP_INPUTS (length (inputs_of chip))
    then Some (fault.TooManyInputs (length (inputs_of chip)))
    else (if nat_lt MOST_CHIP_OUTPUTS (length (outputs_of chip))
    then Some (fault.TooManyOutputs (length (outputs_of chip)))
    else (if nat_lt MOST_CHIP_DEFECTS defects then Some (fault.TooManyDefects defects) else None)))
