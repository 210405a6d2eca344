-- The report of the verdicts on the bridges of a library instance.
use Rattle.std.specs.Prelude.{ℕ, ◌≡◌, ◌<◌, List, length, slice_get}
use Rattle.std.specs.Simd.Lanes.{zip2}
use Rattle.std.specs.List.{All}
use Rattle.ca_linked.specs.Linked.{LinkedChip, outputs_of}
use Rattle.ca_outputs.specs.Outputs.{output_names}
use Rattle.ca_cluster.specs.declared.bridge.Bridge.{Bridge}
use Rattle.ca_cluster.specs.Bridges.{bridge_name}
use Rattle.ca_targets.specs.Targets.{AreKnown}
use Rattle.ca_bridge_verdicts.specs.declared.verdict.BridgeVerdict.{BridgeVerdict}
use Rattle.ca_bridge_verdicts.specs.declared.verdict.BridgeVerdict.TheVariants.{Credited, Unexposable, Untestable}
use Rattle.ca_bridge_verdicts.specs.declared.verdict.BridgeVerdict.TheVariants.{Aborted, Port, Wide}
use Rattle.ca_report.specs.declared.rows.ReportRow.{ReportRow}
use Rattle.ca_report.specs.declared.verdict.Verdict as report
use Rattle.ca_report.specs.declared.verdict.Verdict.TheVariants as reported
use Rattle.ca_report.specs.Report.{bridges_text}
use Rattle.ca_chip_report.specs.ChipReport.{instance_name, cell_name}

-- the verdict in a report, without the code of an aborted search and the rule that a wide cluster breaks
abbrev pub reported_of : BridgeVerdict → report.Verdict
reported_of (Credited pair output) = reported.Credited pair output
reported_of Unexposable = reported.Unexposable
reported_of Untestable = reported.Untestable
reported_of (Aborted code) = reported.Aborted
reported_of Port = reported.Port
reported_of (Wide rule) = reported.Wide

-- the row of a bridge with its verdict
abbrev pub bridge_row : LinkedChip → Bridge → BridgeVerdict → ReportRow
bridge_row chip bridge verdict = record {
  instance = instance_name (slice_get chip.parts bridge.instance.0);
  cell = cell_name (slice_get chip.parts bridge.instance.0);
  defect = bridge_name chip bridge;
  verdict = reported_of verdict;
}

-- the rows of bridges with their verdicts, in order
abbrev pub bridge_rows : LinkedChip → List Bridge → List BridgeVerdict → List ReportRow
bridge_rows chip bridges verdicts = zip2 (bridge_row chip) bridges verdicts

-- the report of these bridges
abbrev pub bridges_report : LinkedChip → List Bridge → List BridgeVerdict → List ℕ
bridges_report chip bridges verdicts = bridges_text (output_names chip) (bridge_rows chip bridges verdicts)

-- the output that the verdict credits, if it does, is one of this many outputs
abbrev pub IsWithin : ℕ → BridgeVerdict → Type 0
IsWithin outputs (Credited pair output) = output < outputs
IsWithin outputs _ = Unit {0}

-- the bridges are those of library instances of the chip, there is a verdict for each, and each output that
-- is credited is an observed one
pub record AreReported (chip : LinkedChip) (bridges : List Bridge) (verdicts : List BridgeVerdict) : Type 0
  where
    pub known : AreKnown chip bridges
    pub one_each : length verdicts ≡ length bridges
    pub outputs : All (IsWithin (length (outputs_of chip))) verdicts
