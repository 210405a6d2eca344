-- The line that says how many bridges have which verdict, and how many pairs there are.
use Rattle.std.specs.Prelude.{ℕ, Bool, true, false, List, [], ◌++◌, length, codes}
use Rattle.std.specs.List.{filter}
use Rattle.ca_bridge_verdicts.specs.declared.verdict.BridgeVerdict.{BridgeVerdict}
use Rattle.ca_bridge_verdicts.specs.declared.verdict.BridgeVerdict.TheVariants.{Credited, Unexposable, Untestable}
use Rattle.ca_bridge_verdicts.specs.declared.verdict.BridgeVerdict.TheVariants.{Aborted, Port, Wide}
use Rattle.ca_chip_report.specs.Summary.{with_count}
use Rattle.ca_bridge_report.specs.declared.summary.BridgeKind.{BridgeKind}
use Rattle.ca_bridge_report.specs.declared.summary.BridgeKind.TheVariants as kind
use Rattle.ca_bridge_report.specs.declared.summary.BridgeSummary.{BridgeSummary}

-- whether the verdict is of the kind
abbrev pub is_bridge_kind : BridgeKind → BridgeVerdict → Bool
is_bridge_kind kind.Credited (Credited pair output) = true
is_bridge_kind kind.Unexposable Unexposable = true
is_bridge_kind kind.Untestable Untestable = true
is_bridge_kind kind.Aborted (Aborted code) = true
is_bridge_kind kind.Port Port = true
is_bridge_kind kind.Wide (Wide rule) = true
is_bridge_kind _ _ = false

-- how many of the verdicts are of the kind
abbrev pub bridge_count : BridgeKind → List BridgeVerdict → ℕ
bridge_count kind verdicts = length (filter (is_bridge_kind kind) verdicts)

-- the numbers of all bridges, of those with each verdict, and of the pairs
abbrev pub bridge_summary_of : List BridgeVerdict → ℕ → BridgeSummary
bridge_summary_of verdicts pairs = record {
  bridges = length verdicts;
  credited = bridge_count kind.Credited verdicts;
  unexposable = bridge_count kind.Unexposable verdicts;
  untestable = bridge_count kind.Untestable verdicts;
  aborted = bridge_count kind.Aborted verdicts;
  port = bridge_count kind.Port verdicts;
  wide = bridge_count kind.Wide verdicts;
  pairs = pairs;
}

-- the line of these numbers
abbrev pub bridge_summary_line : BridgeSummary → List ℕ
bridge_summary_line summary =
    let bridges = with_count [] (codes "bridges ") summary.bridges in
    let credited = with_count bridges (codes ", credited ") summary.credited in
    let unexposable = with_count credited (codes ", unexposable ") summary.unexposable in
    let untestable = with_count unexposable (codes ", untestable ") summary.untestable in
    let aborted = with_count untestable (codes ", aborted ") summary.aborted in
    let port = with_count aborted (codes ", port ") summary.port in
    let wide = with_count port (codes ", wide ") summary.wide in
    with_count wide (codes ", pairs ") summary.pairs ++ codes "\n"

-- the line: how many bridges there are, how many have each verdict, and how many pairs are listed
abbrev pub bridges_line : List BridgeVerdict → ℕ → List ℕ
bridges_line verdicts pairs = bridge_summary_line (bridge_summary_of verdicts pairs)
