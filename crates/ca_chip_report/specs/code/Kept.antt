-- Of what a report asks there is one proof at most. Only the proofs of the code cite this.
use Rattle.std.specs.Prelude.{ℕ, List}
use Rattle.std.proofs.Props.{props}
use Rattle.ca_net.specs.Circuit.{Circuit}
use Rattle.ca_cell.specs.declared.defect.Defect.{Defect}
use Rattle.ca_cell.specs.declared.defect.Defect.TheVariants.{OpenDrain, OpenSource, OpenGate, OpenPin}
use Rattle.ca_cell.specs.declared.defect.Defect.TheVariants.{Short}
use Rattle.ca_cell.specs.Defect.{IsDefect}
use Rattle.ca_flat.specs.declared.chip_defect.ChipDefect.{ChipDefect}
use Rattle.ca_linked.specs.declared.parts.Body.{Body}
use Rattle.ca_linked.specs.declared.parts.Body.TheVariants.{Gate, Scan}
use Rattle.ca_linked.specs.Linked.{LinkedChip, IsGate}
use Rattle.ca_report.specs.declared.verdict.Verdict as report
use Rattle.ca_report.specs.declared.verdict.Verdict.TheVariants.{Credited, Unexposable, Untestable, Aborted}
use Rattle.ca_report.specs.declared.verdict.Verdict.TheVariants.{Uncredited, Port, Wide}
use Rattle.ca_report.specs.Report.{IsVerdictOf}
use Rattle.ca_chip_report.specs.code.Rows.{AreRows}

pub IsDefect-prop : (net : Circuit) (inputs : ℕ) (defect : Defect) → IsProp (IsDefect net inputs defect)
IsDefect-prop net inputs (OpenDrain opened) = Prim.hlevel props
IsDefect-prop net inputs (OpenSource opened) = Prim.hlevel props
IsDefect-prop net inputs (OpenGate opened) = Prim.hlevel props
IsDefect-prop net inputs (OpenPin pin) = Prim.hlevel props
IsDefect-prop net inputs (Short low high) = Prim.hlevel props

pub IsGate-prop : (body : Body) → IsProp (IsGate body)
IsGate-prop (Gate cell inputs outputs) = Prim.hlevel props
IsGate-prop (Scan nets) = Prim.hlevel props

pub IsVerdictOf-prop : (outputs : ℕ) (verdict : report.Verdict) → IsProp (IsVerdictOf outputs verdict)
IsVerdictOf-prop outputs (Credited pair output) = Prim.hlevel props
IsVerdictOf-prop outputs Unexposable = Prim.hlevel props
IsVerdictOf-prop outputs Untestable = Prim.hlevel props
IsVerdictOf-prop outputs Aborted = Prim.hlevel props
IsVerdictOf-prop outputs Uncredited = Prim.hlevel props
IsVerdictOf-prop outputs Port = Prim.hlevel props
IsVerdictOf-prop outputs Wide = Prim.hlevel props

pub ruleset reported_props = (IsDefect-prop, IsGate-prop, IsVerdictOf-prop, props)

pub AreRows-prop : (chip : LinkedChip) (defects : List ChipDefect) (reported : List report.Verdict)
    → IsProp (AreRows chip defects reported)
AreRows-prop chip defects reported = Prim.hlevel reported_props
