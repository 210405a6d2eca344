use Rattle.std.proofs.Common.{◌≡◌, ◌++◌, ℕ, List, map, drop}
use Rattle.ca_csv.specs.Streams.{HasWritten}
use Rattle.ca_csv.specs.Records.{written}
use Rattle.ca_report.specs.Report.{record_of, text_of}
use Rattle.ca_report.proofs.write.write_with.Given as goal

abbrev pub invariant-loop-k : goal.invariant-loop-k
invariant-loop-k g l = (text : List ℕ) × HasWritten l.writer text
    × (text ++ written (map (record_of l.outputs) (drop l.k (g.R.ReportRows.rows l.rows)))
    ≡ text_of l.what l.outputs (g.R.ReportRows.rows l.rows))
