-- The defects on which a certificate of a linked chip claims.
use Rattle.std.specs.Prelude.{List}
use Rattle.ca_flat.specs.declared.chip_defect.ChipDefect.{ChipDefect}
use Rattle.ca_linked.specs.Linked.{LinkedChip}
use Rattle.ca_linked.specs.Instances.{gates_of}
use Rattle.ca_view.specs.Core.{core_of}
use Rattle.ca_view.specs.View.{Viewed}
use Rattle.ca_chip_defects.specs.ChipDefects.{chip_defects}

-- those of its library instances: by instance in netlist order, and then in the order of its cell's list
abbrev pub listed_defects : LinkedChip → List ChipDefect
listed_defects chip = chip_defects (core_of chip) (gates_of chip)

-- the same of the chip that is viewed
abbrev pub viewed_defects : Viewed → List ChipDefect
viewed_defects view = chip_defects view.core (gates_of view.chip)
