-- Words of the code beside those of `specs/Wired.antt`. Private functions and proofs cite them.
use Rattle.std.specs.Prelude.{◌≡◌, length}
use Rattle.ca_linked.specs.declared.order.SortFault.{SortFault}
use Rattle.ca_linked.specs.declared.order.SortFault.TheVariants as sort_fault
use Rattle.ca_linked.specs.declared.wiring.WireFault.{WireFault}
use Rattle.ca_linked.specs.declared.wiring.WireFault.TheVariants.{Loop, NoMemory}
use Rattle.ca_linked.specs.declared.wiring.Judged.{Judged}
use Rattle.ca_linked.specs.declared.wiring.Tables.{Tables}
use Rattle.ca_linked.specs.Linked.{LinkedChip, inputs_of}
use Rattle.ca_linked.specs.Linked.{outputs_of}
use Rattle.ca_linked.specs.code.Reading.{AreReaders}
use Rattle.ca_linked.specs.Instances.{gates_of, scans_of}
use Rattle.ca_linked.specs.Cells.{used_cells}
use Rattle.ca_linked.specs.code.Kept.{ArePlaces}

-- what a fault of the order is a fault of
abbrev pub wire_fault : SortFault → WireFault
wire_fault (sort_fault.Loop loop) = Loop loop
wire_fault sort_fault.NoMemory = NoMemory

-- the tables are of this chip and of the order that was found
pub record AreTables (chip : LinkedChip) (judged : Judged) (tables : Tables) : Type 0 where
  pub read : AreReaders chip tables.readers
  pub are_inputs : tables.inputs ≡ inputs_of chip
  pub are_outputs : tables.outputs ≡ outputs_of chip
  pub are_gates : tables.gates ≡ gates_of chip
  pub are_scans : tables.scans ≡ scans_of chip
  pub are_used : tables.used.items ≡ used_cells chip
  pub placed : ArePlaces judged.order (length judged.order) (length chip.parts) tables.places.items
