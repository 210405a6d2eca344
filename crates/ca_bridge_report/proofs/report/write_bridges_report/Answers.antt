use Rattle.std.proofs.Common.{subst, sym, length}
use Rattle.std.specs.List.{All}
use Rattle.ca_linked.specs.Linked.{outputs_of}
use Rattle.ca_report.specs.Report.{IsRowOf}
use Rattle.ca_report.specs.declared.rows.ReportRow.{ReportRow}
use Rattle.std.proofs.Common.{List}
use Rattle.ca_bridge_report.proofs.RowLemmas.{rows_fit}
use Rattle.ca_bridge_report.proofs.report.write_bridges_report.Goals as goal

pub write_bridges-requires : goal.write_bridges-requires
write_bridges-requires c =
    let chip = c.args.chip.now in
    let bridges = c.args.bridges.now in
    let verdicts = c.args.verdicts.now in
    let outputs = length (outputs_of chip) in
    subst (λ count. All (IsRowOf count) c.in_ok-rows.rows) (sym c.in_ok-outputs.ensures.count)
    (subst (λ (rows : List ReportRow). All (IsRowOf outputs) rows) (sym c.in_ok-rows.ensures)
    (rows_fit outputs chip bridges verdicts c.requires.outputs))
