use Rattle.std.proofs.Common.{◌≡◌, ℕ, List}
use Rattle.ca_lex.specs.FirstFault.{steps_from}
use Rattle.ca_csv.specs.Streams.{HasLeft}
use Rattle.ca_scan.specs.Table.{cells_of, record_step, numbered, rows_of}
use Rattle.ca_scan.proofs.table.read_rows.Given as goal

abbrev pub invariant-loop-row : goal.invariant-loop-row
invariant-loop-row l = ((records : List (List (List ℕ))) → HasLeft l.fn.reader records → (left : List (List (List ℕ))) × HasLeft l.reader left
    × (rows_of records ≡ steps_from record_step l.rows (numbered l.row left))) × (l.cells ≡ cells_of l.rows)
