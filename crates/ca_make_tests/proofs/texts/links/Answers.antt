use Rattle.std.proofs.Common.{map, List, sym, subst}
use Rattle.std.specs.List.{IsDistinct}
use Rattle.std.specs.Str.{bytes_eq}
use Rattle.ca_wiring.specs.declared.scan_row.ScanRow.{ScanRow}
use Rattle.ca_make_tests.proofs.texts.links.Goals as goal

pub link-chip-requires-clause-rows : goal.link-chip-requires-clause-rows
unfolding IsDistinct
link-chip-requires-clause-rows c =
    subst (λ (rows : List ScanRow). IsDistinct bytes_eq (map (λ (row : ScanRow). row.cell) rows)) (sym c.new-table.ensures) tt
