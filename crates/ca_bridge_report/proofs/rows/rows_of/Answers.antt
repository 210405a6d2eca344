use Rattle.std.proofs.Common.{◌∙◌, ◌++◌, ◌∷◌, [], List, ap, take, arith}
use Rattle.ca_targets.proofs.ListLemmas.{contains_at}
use Rattle.ca_report.specs.declared.rows.ReportRow.{ReportRow}
use Rattle.ca_bridge_report.specs.BridgeReport.{bridge_rows}
use Rattle.ca_bridge_report.proofs.RowLemmas.{rows_more, rows_all}
use Rattle.ca_bridge_report.proofs.rows.rows_of.Goals as goal

pub row_of-requires : goal.row_of-requires
row_of-requires c = c.requires.known c.get.result (contains_at c.args.bridges.now c.loop-k.k c.get.result c.get.ensures)

pub loop-k-preserved : goal.loop-k-preserved
loop-k-preserved c =
    let chip = c.args.chip.now in
    let bridges = c.args.bridges.now in
    let verdicts = c.args.verdicts.now in
    let k = c.loop-k.k in
    let rows = bridge_rows chip bridges verdicts in
    c.in_ok-push.ensures.ok
    ∙ ap (λ (front : List ReportRow). front ++ c.in_ok-row_of.field-0 ∷ []) c.loop-k.invariant
    ∙ ap (λ (last : ReportRow). take k rows ++ last ∷ []) c.in_ok-row_of.ensures
    ∙ rows_more chip bridges verdicts k c.get.result c.verdict_at.result.now c.get.ensures c.verdict_at.ensures c.requires.one_each

pub returns : goal.returns
returns c =
    let past = c.loop-k-test.false in
    let count = c.len-k-end.ensures in
    c.loop-k.invariant ∙ rows_all c.args.chip.now c.args.bridges.now c.args.verdicts.now c.loop-k.k (omega arith) c.requires.one_each
