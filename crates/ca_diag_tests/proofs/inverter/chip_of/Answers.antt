use Rattle.std.proofs.Common.{List, map, sym, subst}
use Rattle.std.specs.List.{IsDistinct}
use Rattle.std.specs.Str.{bytes_eq}
use Rattle.ca_wiring.specs.declared.scan_row.ScanRow.{ScanRow}
use Rattle.ca_diag_tests.proofs.inverter.chip_of.Goals as goal

pub link-requires-clause-rows : goal.link-requires-clause-rows
unfolding IsDistinct
link-requires-clause-rows c =
    subst (λ (rows : List ScanRow). IsDistinct bytes_eq (map (λ (row : ScanRow). row.cell) rows)) (sym c.new-scan.ensures) tt
