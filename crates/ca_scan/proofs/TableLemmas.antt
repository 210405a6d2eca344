-- The fields and the records of a scan table.
use Rattle.std.proofs.Common.{◌≡◌, ℕ, zero, suc, ◌+◌, ◌<◌, Bool, true, false, not, ◌&&◌, List, [], ◌∷◌, ◌++◌}
use Rattle.std.proofs.Common.{◌∙◌, length, take, get_or, ap, arith, refl, sym, Option, Some, None, Result, Ok}
use Rattle.std.proofs.Common.{Err}
use Rattle.std.specs.Prelude.{if◌then◌else◌}
use Rattle.csv.specs.Records.{field_at}
use Rattle.ca_lex.specs.FirstFault.{steps_from}
use Rattle.ca_wiring.specs.declared.scan_row.ScanRow.{ScanRow}
use Rattle.std.specs.List.{list_all}
use Rattle.std.proofs.lemmas.List.{map-append}
use Rattle.ca_names.specs.Names.{has_name, with_name}
use Rattle.ca_scan.specs.Table.{cells_of, is_text, is_row, is_header, row_of, row_with, may_join, with_fields}
use Rattle.ca_scan.specs.Table.{numbered, record_step, rows_of}
use Rattle.ca_scan.specs.code.Table.{Joins}

-- the fields up to a place end with the one before it
take_at : (xs : List (List ℕ)) (i m : ℕ) (x : List ℕ) → field_at xs i ≡ Some x → m ≡ i + 1 → take m xs ≡ take i xs ++ x ∷ []
unfolding field_at
take_at [] i m x at next = cc
take_at (y ∷ ys) zero m x at next =
    let is : y ≡ x = cc in
    let one : m ≡ suc zero = omega arith in
    rw (one, is) refl
take_at (y ∷ ys) (suc i) m x at next =
    let more : m ≡ suc (i + 1) = omega arith in
    rw more (ap (λ zs. y ∷ zs) (take_at ys i (i + 1) x at refl))

pub take_field : (xs : List (List ℕ)) (i : ℕ) (x : List ℕ) → field_at xs i ≡ Some x → take (i + 1) xs ≡ take i xs ++ x ∷ []
take_field xs i x at = take_at xs i (i + 1) x at refl

pub take_fields : (xs : List (List ℕ)) (n : ℕ) → n ≡ length xs → take n xs ≡ xs
take_fields [] n all = rw all refl
take_fields (x ∷ xs) n all = rw all (ap (λ ys. x ∷ ys) (take_fields xs (length xs) refl))

-- after a header come the rows
pub after_header : (fields : List (List ℕ)) (records : List (List (List ℕ))) → is_header fields ≡ true
    → rows_of (fields ∷ records) ≡ steps_from record_step [] (numbered 2 records)
after_header fields records is = by (is_header fields) is
  where
    by : (test : Bool) → test ≡ true → (if test then steps_from record_step [] (numbered 2 records) else Err 1) ≡ steps_from record_step [] (numbered 2 records)
    by true is = refl
    by false is = absurd cc

pub no_header : (fields : List (List ℕ)) (records : List (List (List ℕ))) → is_header fields ≡ false → rows_of (fields ∷ records) ≡ Err 1
no_header fields records is = by (is_header fields) is
  where
    by : (test : Bool) → test ≡ false → (if test then steps_from record_step [] (numbered 2 records) else Err 1) ≡ Err 1
    by true is = absurd cc
    by false is = refl

-- a row that joins the others is read on from
pub joined_on : (rows more : List ScanRow) (row : ℕ) (fields : List (List ℕ)) (records : List (List (List ℕ))) → with_fields rows fields ≡ Some more
    → steps_from record_step rows (numbered row (fields ∷ records)) ≡ steps_from record_step more (numbered (row + 1) records)
unfolding steps_from numbered
joined_on rows more row fields records is =
    (λ j. elim (elim (is j) as (λ _. Result (List ScanRow) ℕ) [ None ↦ Err row | Some others ↦ Ok others ]) as (λ _. Result (List ScanRow) ℕ) [
      | Ok next ↦ steps_from record_step next (numbered (row + 1) records)
      | Err fault ↦ Err fault
    ])

pub not_joined : (rows : List ScanRow) (row : ℕ) (fields : List (List ℕ)) (records : List (List (List ℕ))) → with_fields rows fields ≡ None
    → steps_from record_step rows (numbered row (fields ∷ records)) ≡ Err row
unfolding steps_from numbered
not_joined rows row fields records is =
    (λ j. elim (elim (is j) as (λ _. Result (List ScanRow) ℕ) [ None ↦ Err row | Some others ↦ Ok others ]) as (λ _. Result (List ScanRow) ℕ) [
      | Ok next ↦ steps_from record_step next (numbered (row + 1) records)
      | Err fault ↦ Err fault
    ])

pub all_read : (rows : List ScanRow) (row : ℕ) → steps_from record_step rows (numbered row []) ≡ Ok rows
unfolding steps_from numbered
all_read rows row = refl

-- whether a row joined, by the answer
pub joins : (answer : Bool) (wanted : Option (List ScanRow)) (rows : List ScanRow) → answer ≡ true → Joins answer wanted rows → wanted ≡ Some rows
joins true wanted rows is given = given
joins false wanted rows is given = absurd cc

pub joins_not : (answer : Bool) (wanted : Option (List ScanRow)) (rows : List ScanRow) → answer ≡ false → Joins answer wanted rows → wanted ≡ None
joins_not true wanted rows is given = absurd cc
joins_not false wanted rows is given = given

-- what fields make of the rows
pub no_row : (rows : List ScanRow) (fields : List (List ℕ)) → row_with fields ≡ None → with_fields rows fields ≡ None
unfolding with_fields
no_row rows fields is =
    (λ j. elim (is j) as (λ _. Option (List ScanRow)) [ None ↦ None | Some row ↦ if may_join (cells_of rows) fields row then Some (rows ++ row ∷ []) else None ])

pub may : (rows : List ScanRow) (fields : List (List ℕ)) (row : ScanRow) → row_with fields ≡ Some row → may_join (cells_of rows) fields row ≡ true
    → with_fields rows fields ≡ Some (rows ++ row ∷ [])
unfolding with_fields
may rows fields row is test =
    (λ j. elim (is j) as (λ _. Option (List ScanRow)) [ None ↦ None | Some row ↦ if may_join (cells_of rows) fields row then Some (rows ++ row ∷ []) else None ])
    ∙ (λ j. if test j then Some (rows ++ row ∷ []) else None)

pub may_not : (rows : List ScanRow) (fields : List (List ℕ)) (row : ScanRow) → row_with fields ≡ Some row → may_join (cells_of rows) fields row ≡ false
    → with_fields rows fields ≡ None
unfolding with_fields
may_not rows fields row is test =
    (λ j. elim (is j) as (λ _. Option (List ScanRow)) [ None ↦ None | Some row ↦ if may_join (cells_of rows) fields row then Some (rows ++ row ∷ []) else None ])
    ∙ (λ j. if test j then Some (rows ++ row ∷ []) else None)

-- the row of nine fields
pub nine : (fields : List (List ℕ)) (cell d q qn si so se ck hold : List ℕ) → length fields ≡ 9 → cell ≡ get_or fields 0 cell → d ≡ get_or fields 1 d → q ≡ get_or fields 2 q → qn ≡ get_or fields 3 qn → si ≡ get_or fields 4 si → so ≡ get_or fields 5 so → se ≡ get_or fields 6 se → ck ≡ get_or fields 7 ck → hold ≡ get_or fields 8 hold
    → row_with fields ≡ Some (row_of cell d q qn si so se ck hold)
unfolding row_with
nine (x0 ∷ x1 ∷ x2 ∷ x3 ∷ x4 ∷ x5 ∷ x6 ∷ x7 ∷ x8 ∷ []) cell d q qn si so se ck hold len is_cell is_d is_q is_qn is_si is_so is_se is_ck is_hold =
    let back0 = sym is_cell in let back1 = sym is_d in let back2 = sym is_q in let back3 = sym is_qn in let back4 = sym is_si in let back5 = sym is_so in let back6 = sym is_se in let back7 = sym is_ck in let back8 = sym is_hold in
    (λ j. Some (row_of (back0 j) (back1 j) (back2 j) (back3 j) (back4 j) (back5 j) (back6 j) (back7 j) (back8 j)))
nine _ cell d q qn si so se ck hold len is_cell is_d is_q is_qn is_si is_so is_se is_ck is_hold = absurd (omega (arith, len))

-- the cell of a row that may join is another
pub is_new : (cells : List (List ℕ)) (fields : List (List ℕ)) (row : ScanRow) → may_join cells fields row ≡ true → has_name row.cell cells ≡ false
is_new cells fields row test = by (list_all is_text fields) (is_row row) (has_name row.cell cells) test
  where
    by : (one two three : Bool) → (one && (two && not three)) ≡ true → three ≡ false
    by true true false is = refl
    by true true true is = absurd (let clash : false ≡ true = is in cc)
    by true false three is = absurd (let clash : false ≡ true = is in cc)
    by false two three is = absurd (let clash : false ≡ true = is in cc)

-- the cells of one row more
pub one_cell_more : (rows : List ScanRow) (row : ScanRow) → cells_of (rows ++ row ∷ []) ≡ cells_of rows ++ row.cell ∷ []
one_cell_more rows row = map-append (λ (r : ScanRow). r.cell) rows (row ∷ [])

pub new_name : (name : List ℕ) (cells : List (List ℕ)) → has_name name cells ≡ false → with_name name cells ≡ cells ++ name ∷ []
new_name name cells is = (λ j. if is j then cells else cells ++ name ∷ [])
