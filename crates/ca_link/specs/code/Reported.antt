-- What is reported about a fault of nets. Only the proofs of the code cite this.
use Rattle.std.specs.Prelude.{ℕ, ◌≡◌, ◌<◌, ◌⊎◌, List, Option, Some, None, slice_get}
use Rattle.ca_wiring.specs.declared.scan_row.ScanRow.{ScanRow}
use Rattle.ca_wiring.specs.declared.fault.Driver.{Driver}
use Rattle.ca_wiring.specs.declared.fault.ChipFault.{ChipFault}
use Rattle.ca_wiring.specs.declared.fault.ChipFault.TheVariants as fault
use Rattle.ca_wiring.specs.Wiring.{ScanCell, row_of}
use Rattle.ca_wiring.specs.Rules.{control_names}
use Rattle.ca_linked.specs.declared.controls.Misused.{Misused}
use Rattle.ca_linked.specs.declared.parts.Part.{Part}
use Rattle.ca_linked.specs.declared.parts.Source.{Source}
use Rattle.ca_linked.specs.declared.wiring.WireFault.{WireFault}
use Rattle.ca_linked.specs.declared.wiring.WireFault.TheVariants as wire_fault
use Rattle.ca_linked.specs.Linked.{LinkedChip}
use Rattle.ca_link.specs.code.Names.{ReportsSource}

-- the name of a control pin of a scan instance
pub record IsControlName (chip : LinkedChip) (scan : List ScanRow) (u k : ℕ) (name : List ℕ) : Type 0 where
  pub part : Part
  pub row : ScanRow
  pub at : slice_get chip.parts u ≡ Some part
  pub is_row : row_of scan part.cell ≡ Some row
  pub named : slice_get (control_names (ScanCell row)) k ≡ Some name

-- the net is reported with the first two that drive it; or nothing does
abbrev pub ReportsMisdriven : LinkedChip → List ScanRow → ℕ → Option Source → Option Source → ChipFault
    → Type 0
ReportsMisdriven chip scan net None two reported = reported ≡ fault.Undriven (record { 0 = net })
ReportsMisdriven chip scan net (Some one) None reported = reported ≡ fault.Undriven (record { 0 = net })
ReportsMisdriven chip scan net (Some one) (Some two) reported =
    (first second : Driver) × ReportsSource chip scan net one first × ReportsSource chip scan net two second
    × (reported ≡ fault.DoubleDriven (record { 0 = net }) first second)

-- a control pin is reported by its name, the inverted output by its instance
abbrev pub ReportsMisused : LinkedChip → List ScanRow → Misused → ChipFault → Type 0
ReportsMisused chip scan misused reported =
    ((misused.pin ≡ 3) × (reported ≡ fault.QnUsed (record { 0 = misused.instance })))
    ⊎ ((misused.pin < 3) × ((name : List ℕ) × IsControlName chip scan misused.instance misused.pin name
    × (reported ≡ fault.ControlPin (record { 0 = misused.instance }) name)))

-- what is reported about a fault
abbrev pub ReportsFault : LinkedChip → List ScanRow → WireFault → ChipFault → Type 0
ReportsFault chip scan (wire_fault.Misdriven net sources) reported =
    ReportsMisdriven chip scan net sources.first sources.second reported
ReportsFault chip scan (wire_fault.Misused misused) reported = ReportsMisused chip scan misused reported
ReportsFault chip scan (wire_fault.Observed net) reported =
    reported ≡ fault.ControlObserved (record { 0 = net })
ReportsFault chip scan (wire_fault.Loop loop) reported = reported ≡ fault.Loop loop
ReportsFault chip scan wire_fault.NoMemory reported = reported ≡ fault.NoMemory
