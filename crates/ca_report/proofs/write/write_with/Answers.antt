use Rattle.std.proofs.Common.{◌∙◌, ◌++◌, ◌≤◌, [], length, arith}
use Rattle.csv.specs.Records.{fields_of}
use Rattle.csv.specs.Writing.{default_writer, row_text}
use Rattle.ca_report.specs.Report.{text_of}
use Rattle.ca_report.proofs.ReportLemmas.{one_more, header_first, no_more}
use Rattle.ca_report.proofs.write.write_with.Goals as goal

pub loop-k-init : goal.loop-k-init
loop-k-init g c = (
  [] ++ row_text default_writer (fields_of c.fill_header.new.fields),
  c.in_ok-append.ensures [] c.writer_of-writer.ensures,
  header_first c.args.what.now c.args.outputs.now (g.R.ReportRows.rows c.args.rows.now) (fields_of c.fill_header.new.fields)
      c.in_ok-fill_header.ensures,
)

pub loop-k-preserved : goal.loop-k-preserved
loop-k-preserved g c =
    let rows = g.R.ReportRows.rows c.args.rows.now in
    let inv = c.loop-k.invariant in (
      inv.0 ++ row_text default_writer (fields_of c.fill_record.new.fields),
      c.in_ok-append-2.ensures inv.0 inv.1,
      one_more c.args.outputs.now c.loop-k.k rows inv.0 (text_of c.args.what.now c.args.outputs.now rows)
          (fields_of c.fill_record.new.fields) c.in_ok-fill_record.ensures inv.2,
    )

pub returns : goal.returns
returns g c =
    let rows = g.R.ReportRows.rows c.args.rows.now in
    let inv = c.loop-k.invariant in
    let past : length rows ≤ c.loop-k.k = omega (arith, c.loop-k-test.false, c.len-k-end.ensures) in
    record {
      ok = c.from_vec.ensures ∙ (c.in_ok-finish.ensures inv.0 inv.1
          ∙ no_more c.args.outputs.now c.loop-k.k rows inv.0 (text_of c.args.what.now c.args.outputs.now rows) past inv.2);
    }
