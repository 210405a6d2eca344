-- Words of the code beside those of `specs/Table.antt`. Private functions and proofs cite them.
use Rattle.std.specs.Prelude.{◌≡◌, Bool, true, false, List}
use Rattle.std.specs.Prelude.{Option, Some, None}
use Rattle.ca_wiring.specs.declared.scan_row.ScanRow.{ScanRow}

-- the row joined those before it, or it can't
abbrev pub Joins : Bool → Option (List ScanRow) → List ScanRow → Type 0
Joins true wanted rows = wanted ≡ Some rows
Joins false wanted rows = wanted ≡ None
