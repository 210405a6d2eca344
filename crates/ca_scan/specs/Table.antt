-- What a scan table reads as: its records, one after another, up to the first that breaks the form.
use Rattle.std.specs.Prelude.{ℕ, ◌≡◌, ◌+◌, ◌==◌, nat_le, Bool, true, false, not, ◌&&◌, ◌||◌, List, [], ◌∷◌}
use Rattle.std.specs.Prelude.{◌++◌, length, map, Option, Some, None, Result, Ok, Err, codes, if◌then◌else◌}
use Rattle.std.specs.List.{list_all, list_any}
use Rattle.std.specs.Str.{bytes_eq}
use Rattle.ca_csv.specs.Records.{text_records}
use Rattle.ca_lex.specs.Words.{upper_case}
use Rattle.ca_names.specs.Names.{has_name}
use Rattle.ca_wiring.specs.declared.scan_row.ScanRow.{ScanRow}
use Rattle.ca_scan.specs.declared.fault.ScanFault.{ScanFault}
use Rattle.ca_scan.specs.declared.fault.ScanFault.TheVariants as fault
use Rattle.ca_lex.specs.FirstFault.{steps_from}

-- the first record, letter by letter
abbrev pub header : List (List ℕ)
header =
    codes "cell" ∷ codes "d" ∷ codes "q" ∷ codes "qn" ∷ codes "si" ∷ codes "so" ∷ codes "se" ∷ codes "ck"
    ∷ codes "hold" ∷ []

-- these are the same texts
unfoldable pub same_texts : List (List ℕ) → List (List ℕ) → Bool
same_texts [] [] = true
same_texts [] (other ∷ others) = false
same_texts (text ∷ texts) [] = false
same_texts (text ∷ texts) (other ∷ others) = bytes_eq text other && same_texts texts others

-- the fields are those of the header
abbrev pub is_header : List (List ℕ) → Bool
is_header fields = same_texts fields header

-- bytes 33 to 126 alone
abbrev pub is_text : List ℕ → Bool
is_text field = list_all (λ byte. nat_le 33 byte && nat_le byte 126) field

-- no byte
abbrev pub is_empty : List ℕ → Bool
is_empty field = length field == 0

-- no text is twice in the list
unfoldable pub is_distinct : List (List ℕ) → Bool
is_distinct [] = true
is_distinct (text ∷ texts) = not (list_any (bytes_eq text) texts) && is_distinct texts

-- the pins that the row must name
abbrev pub pins_of : ScanRow → List (List ℕ)
pins_of row = row.d ∷ row.q ∷ row.si ∷ row.so ∷ row.se ∷ row.ck ∷ row.hold ∷ []

-- it names these pins, all distinct
abbrev pub are_pins : List (List ℕ) → Bool
are_pins pins = not (list_any is_empty pins) && is_distinct pins

-- nothing but `qn` is empty, and the pins are distinct
abbrev pub is_row : ScanRow → Bool
is_row row =
    not (is_empty row.cell)
    && (are_pins (pins_of row) && (is_empty row.qn || not (list_any (bytes_eq row.qn) (pins_of row))))

-- the row of these fields, in upper case
unfoldable pub row_of : (cell d q qn si so se ck hold : List ℕ) → ScanRow
row_of cell d q qn si so se ck hold = record {
  cell = upper_case cell;
  d = upper_case d;
  q = upper_case q;
  qn = upper_case qn;
  si = upper_case si;
  so = upper_case so;
  se = upper_case se;
  ck = upper_case ck;
  hold = upper_case hold;
}

-- the row of nine fields
unfoldable pub row_with : List (List ℕ) → Option ScanRow
row_with (cell ∷ d ∷ q ∷ qn ∷ si ∷ so ∷ se ∷ ck ∷ hold ∷ []) = Some (row_of cell d q qn si so se ck hold)
row_with _ = None

-- the cells of the rows
abbrev pub cells_of : List ScanRow → List (List ℕ)
cells_of rows = map (λ row. row.cell) rows

-- the row of these fields may join those of the cells: it is one, its fields are texts, and its cell is
-- another
abbrev pub may_join : List (List ℕ) → List (List ℕ) → ScanRow → Bool
may_join cells fields row = list_all is_text fields && (is_row row && not (has_name row.cell cells))

-- the rows with the one that these fields make, where it may join them
unfoldable pub with_fields : List ScanRow → List (List ℕ) → Option (List ScanRow)
with_fields rows fields = elim (row_with fields) [
  | None ↦ None
  | Some row ↦ if may_join (cells_of rows) fields row then Some (rows ++ row ∷ []) else None
]

-- a record with its number, counted from 1
pub record Numbered : Type 0 where
  pub row : ℕ
  pub fields : List (List ℕ)

-- the records with their numbers, from this one on
unfoldable pub numbered : ℕ → List (List (List ℕ)) → List Numbered
numbered row [] = []
numbered row (fields ∷ records) = record { row = row; fields = fields } ∷ numbered (row + 1) records

-- what the next record makes of the rows before it; a fault is the record's number
abbrev pub record_step : Numbered → List ScanRow → Result (List ScanRow) ℕ
record_step here rows = elim (with_fields rows here.fields) [ None ↦ Err here.row | Some more ↦ Ok more ]

-- the rows of a table, or the number of the first record that breaks the form: 1 where the header is missing
-- or another
abbrev pub rows_of : List (List (List ℕ)) → Result (List ScanRow) ℕ
rows_of [] = Err 1
rows_of (fields ∷ records) =
    if is_header fields then steps_from record_step [] (numbered 2 records) else Err 1

-- the table that a text is
unfoldable pub table_of : List ℕ → Result (List ScanRow) ℕ
table_of text = rows_of (text_records text)

-- what the code answers: the rows that the text reads as, or the number of the first record that breaks the
-- form; out of memory is always allowed
abbrev pub Reads : Result (List ScanRow) ScanFault → Result (List ScanRow) ℕ → Type 0
Reads (Ok rows) wanted = wanted ≡ Ok rows
Reads (Err (fault.BadScanRow row)) wanted = wanted ≡ Err row
Reads (Err fault.NoMemory) wanted = Unit {0}
