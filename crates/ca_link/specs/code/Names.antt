-- The names of the output pins of a link, and how a fault names what drives a net. Only the proofs of the
-- code cite this.
use Rattle.std.specs.Prelude.{ℕ, ◌≡◌, List, [], length, Option, Some, None, slice_get}
use Rattle.ca_cell.specs.declared.raw.RawCell.{RawCell}
use Rattle.ca_cell.specs.Raw.{is_output}
use Rattle.ca_wiring.specs.declared.scan_row.ScanRow.{ScanRow}
use Rattle.ca_wiring.specs.declared.fault.Driver.{Driver}
use Rattle.ca_wiring.specs.declared.fault.Driver.TheVariants as driver
use Rattle.ca_wiring.specs.Wiring.{ScanCell, names_with, output_names, row_of}
use Rattle.ca_linked.specs.declared.parts.Body.{Body}
use Rattle.ca_linked.specs.declared.parts.Body.TheVariants.{Gate, Scan}
use Rattle.ca_linked.specs.declared.parts.Part.{Part}
use Rattle.ca_linked.specs.declared.parts.Source.{Source}
use Rattle.ca_linked.specs.declared.parts.Source.TheVariants.{FromPort, FromConstant, FromPin}
use Rattle.ca_linked.specs.Linked.{LinkedChip, cell_of, output_nets}

-- the names of the output pins of an instance, whose cell has this row in the scan table, if any
abbrev pub body_outputs : List RawCell → Option ScanRow → Body → List (List ℕ)
body_outputs cells row (Gate cell inputs outputs) = names_with is_output (cell_of cells cell).pins
body_outputs cells None (Scan nets) = []
body_outputs cells (Some row) (Scan nets) = output_names (ScanCell row)

abbrev pub part_outputs : LinkedChip → List ScanRow → Part → List (List ℕ)
part_outputs chip scan part = body_outputs chip.cells (row_of scan part.cell) part.body

-- each output pin has a name
abbrev pub HaveNames : LinkedChip → List ScanRow → Type 0
HaveNames chip scan =
    (u : ℕ) (part : Part) → slice_get chip.parts u ≡ Some part
    → length (part_outputs chip scan part) ≡ length (output_nets part.body)

-- the name of an output pin of an instance
pub record IsOutputName (chip : LinkedChip) (scan : List ScanRow) (u pin : ℕ) (name : List ℕ) : Type 0 where
  pub part : Part
  pub at : slice_get chip.parts u ≡ Some part
  pub named : slice_get (part_outputs chip scan part) pin ≡ Some name

-- how a fault names the source that drives a net: a port by the net, a pin by its name
abbrev pub ReportsSource : LinkedChip → List ScanRow → ℕ → Source → Driver → Type 0
ReportsSource chip scan net (FromPort p) reported = reported ≡ driver.Port (record { 0 = net })
ReportsSource chip scan net (FromConstant value) reported = reported ≡ driver.Constant value
ReportsSource chip scan net (FromPin u pin) reported =
    (name : List ℕ) × IsOutputName chip scan u pin name × (reported ≡ driver.Pin (record { 0 = u }) name)
