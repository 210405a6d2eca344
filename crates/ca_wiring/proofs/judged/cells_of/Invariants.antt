use Rattle.std.proofs.Common.{◌≡◌, map}
use Rattle.std.specs.Prelude.{take}
use Rattle.ca_wiring.specs.declared.scan_row.ScanRow.{ScanRow}
use Rattle.ca_wiring.proofs.judged.cells_of.Given as goal

abbrev pub invariant-loop-k : goal.invariant-loop-k
invariant-loop-k l = l.cells ≡ map (λ (row : ScanRow). row.cell) (take l.k l.scan)
