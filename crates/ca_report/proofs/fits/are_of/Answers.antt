use Rattle.std.proofs.Common.{rules, ◌≤◌, IsTrue, true, length, arith}
use Rattle.ca_report.specs.Report.{IsRowOf}
use Rattle.ca_report.proofs.RowLemmas.{all_more, all_seen}
use Rattle.ca_report.proofs.fits.are_of.Goals as goal

pub loop-k-preserved : goal.loop-k-preserved
loop-k-preserved g c =
    let held : IsTrue true = search rules in
    all_more (IsRowOf (length c.args.outputs.now)) (g.R.ReportRows.rows c.args.rows.now) c.loop-k.k
    (c.if-not-is_row_of.ensures.0 held) c.loop-k.invariant

pub returns : goal.returns
returns g c =
    let rows = g.R.ReportRows.rows c.args.rows.now in
    let past : length rows ≤ c.loop-k.k = omega (arith, c.loop-k-test.false, c.len-k-end.ensures) in
    let held : IsTrue true = search rules in
    (λ yes. all_seen (IsRowOf (length c.args.outputs.now)) rows c.loop-k.k past c.loop-k.invariant, λ all. held)
