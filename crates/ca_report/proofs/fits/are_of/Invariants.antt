use Rattle.std.proofs.Common.{take, length}
use Rattle.std.specs.List.{All}
use Rattle.ca_report.specs.Report.{IsRowOf}
use Rattle.ca_report.proofs.fits.are_of.Given as goal

abbrev pub invariant-loop-k : goal.invariant-loop-k
invariant-loop-k g l = All (IsRowOf (length l.outputs)) (take l.k (g.R.ReportRows.rows l.rows))
