-- Where each instance keeps its rules, no cell of an instance breaks one.
use Rattle.std.proofs.Common.{◌≡◌, refl, subst, List, Option, Some, None}
use Rattle.std.specs.Prelude.{IsSomeAnd, slice_get}
use Rattle.ca_cell.specs.Library.{Named}
use Rattle.ca_verilog.specs.declared.raw.RawInstance.{RawInstance}
use Rattle.ca_verilog.specs.declared.raw.RawNetlist.{RawNetlist}
use Rattle.ca_wiring.specs.declared.scan_row.ScanRow.{ScanRow}
use Rattle.ca_wiring.specs.declared.fault.ChipFault.{ChipFault}
use Rattle.ca_wiring.specs.declared.fault.ChipFault.TheVariants as rule
use Rattle.ca_wiring.specs.Wiring.{Broken, meaning_of}
use Rattle.ca_wiring.specs.InstanceRules.{AreSound, IsKnown}
use Rattle.ca_wiring.specs.Rules.{IsCause}
use Rattle.ca_fault_place.specs.Place.{IsOfNetlist}

pub of_netlist : (netlist : RawNetlist) (library : List Named) (scan : List ScanRow) (broken : ChipFault) → AreSound netlist library scan
    → IsCause netlist library scan broken → IsOfNetlist broken
of_netlist netlist library scan (rule.UnknownCell u) sound cause = tt
of_netlist netlist library scan (rule.Cell u broken) sound cause = by (slice_get netlist.instances u.0) refl cause.breaks.1
  where
    by : (o : Option RawInstance) → slice_get netlist.instances u.0 ≡ o
        → IsSomeAnd o (λ instance. meaning_of library scan instance.cell ≡ Broken broken) → ⊥
    by None at held = held
    by (Some instance) at held = subst IsKnown held (sound u.0 instance at).known
of_netlist netlist library scan (rule.UnknownPin u pin) sound cause = tt
of_netlist netlist library scan (rule.MissingPin u pin) sound cause = tt
of_netlist netlist library scan (rule.DoubleDriven net first second) sound cause = tt
of_netlist netlist library scan (rule.Undriven net) sound cause = tt
of_netlist netlist library scan (rule.ControlPin u pin) sound cause = tt
of_netlist netlist library scan (rule.ControlObserved net) sound cause = tt
of_netlist netlist library scan (rule.QnUsed u) sound cause = tt
of_netlist netlist library scan (rule.Loop instances) sound cause = tt
of_netlist netlist library scan (rule.TooManyInstances count) sound cause = tt
of_netlist netlist library scan (rule.TooManyInputs count) sound cause = tt
of_netlist netlist library scan (rule.TooManyOutputs count) sound cause = tt
of_netlist netlist library scan (rule.TooManyDefects count) sound cause = tt
of_netlist netlist library scan rule.NoMemory sound cause = tt
