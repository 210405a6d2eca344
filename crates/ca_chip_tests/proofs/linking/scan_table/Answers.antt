use Rattle.std.proofs.Common.{List, [], ◌∷◌, ◌++◌, map, sym, ◌∙◌, ap, subst}
use Rattle.std.specs.List.{IsDistinct}
use Rattle.std.specs.Str.{bytes_eq}
use Rattle.ca_wiring.specs.declared.scan_row.ScanRow.{ScanRow}
use Rattle.ca_chip_tests.proofs.linking.scan_table.Goals as goal

pub returns-in-Ok : goal.returns-in-Ok
unfolding IsDistinct
returns-in-Ok c =
    subst (λ (rows : List ScanRow). IsDistinct bytes_eq (map (λ (row : ScanRow). row.cell) rows))
    (sym (c.in-Ok.ensures.ok ∙ ap (λ (rows : List ScanRow). rows ++ c.in_ok-row.row ∷ []) c.new-table.ensures)) (tt, tt)
