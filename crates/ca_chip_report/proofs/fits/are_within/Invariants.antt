use Rattle.std.proofs.Common.{take}
use Rattle.std.specs.List.{All}
use Rattle.ca_chip_report.specs.ChipReport.{IsVerdictWithin}
use Rattle.ca_chip_report.proofs.fits.are_within.Given as goal

abbrev pub invariant-loop-k : goal.invariant-loop-k
invariant-loop-k l = All (IsVerdictWithin l.outputs) (take l.k l.verdicts)
