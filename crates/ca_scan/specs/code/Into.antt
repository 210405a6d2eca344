-- What is read into a table that grows.
use Rattle.std.specs.Prelude.{ℕ, ◌≡◌, List, Result, Ok, Err, ⊤}
use Rattle.ca_wiring.specs.declared.scan_row.ScanRow.{ScanRow}
use Rattle.ca_scan.specs.declared.fault.ScanFault.{ScanFault}
use Rattle.ca_scan.specs.declared.fault.ScanFault.TheVariants as fault

-- the rows are those that were wanted, or the number of the first record that breaks the form is reported;
-- out of memory is always allowed
abbrev pub ReadsInto : Result ⊤ ScanFault → List ScanRow → Result (List ScanRow) ℕ → Type 0
ReadsInto (Ok done) rows wanted = wanted ≡ Ok rows
ReadsInto (Err (fault.BadScanRow row)) rows wanted = wanted ≡ Err row
ReadsInto (Err fault.NoMemory) rows wanted = Unit {0}
