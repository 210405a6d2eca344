use Rattle.std.proofs.Common.{◌≡◌, ◌∙◌, ℕ, List, true, false, ap, sym, rules, Some, None}
use Rattle.csv.specs.Records.{fields_of}
use Rattle.ca_csv.proofs.CsvLemmas.{found_none, found_some}
use Rattle.ca_lex.specs.FirstFault.{steps_from}
use Rattle.ca_wiring.specs.declared.scan_row.ScanRow.{ScanRow}
use Rattle.ca_scan.specs.Table.{cells_of, is_header, rows_of, record_step, numbered, with_fields}
use Rattle.ca_scan.proofs.TableLemmas.{after_header, no_header, joined_on, not_joined, all_read, joins}
use Rattle.ca_scan.proofs.TableLemmas.{joins_not}
use Rattle.ca_scan.proofs.table.read_rows.Goals as goal

pub returns-then-not-branch : goal.returns-then-not-branch
returns-then-not-branch c = λ records has.
    let none : c.in_ok-next.field-0 ≡ false = search rules in
    ap rows_of (found_none c.in_ok-next.field-0 (fields_of c.next.new.fields) c.next.new.reader records none (c.in_ok-next.ensures records has))

pub returns-then-not-is_it : goal.returns-then-not-is_it
returns-then-not-is_it c = λ records has.
    let some : c.in_ok-next.field-0 ≡ true = search rules in
    let found = found_some c.in_ok-next.field-0 (fields_of c.next.new.fields) c.next.new.reader records some (c.in_ok-next.ensures records has) in
    let test : is_header (fields_of c.next.new.fields) ≡ false = search rules in
    ap rows_of found.1 ∙ no_header (fields_of c.next.new.fields) found.0 test

pub loop-row-init : goal.loop-row-init
loop-row-init c = (
  λ records has.
      let some : c.in_ok-next.field-0 ≡ true = search rules in
      let found = found_some c.in_ok-next.field-0 (fields_of c.next.new.fields) c.next.new.reader records some (c.in_ok-next.ensures records has) in
      let test : is_header (fields_of c.next.new.fields) ≡ true = search rules in (
        found.0,
        found.2,
        ap rows_of found.1 ∙ (after_header (fields_of c.next.new.fields) found.0 test
            ∙ ap (λ (rows : List ScanRow). steps_from record_step rows (numbered 2 found.0)) (sym c.requires.rows)),
      ),
  c.requires.cells ∙ ap cells_of (sym c.requires.rows),
)

pub returns-then-not-branch-2 : goal.returns-then-not-branch-2
returns-then-not-branch-2 c = λ records has.
    let inv = c.loop-row.invariant.0 records has in
    let none : c.in_ok-next-2.field-0 ≡ false = search rules in
    let left = found_none c.in_ok-next-2.field-0 (fields_of c.next-in-loop-row.new.fields) c.next-in-loop-row.new.reader inv.0 none (c.in_ok-next-2.ensures inv.0 inv.1) in
    inv.2 ∙ (ap (λ (records : List (List (List ℕ))). steps_from record_step c.loop-row.rows (numbered c.loop-row.row records)) left
    ∙ all_read c.loop-row.rows c.loop-row.row)

pub returns-then-not-branch-3 : goal.returns-then-not-branch-3
returns-then-not-branch-3 c = λ records has.
    let inv = c.loop-row.invariant.0 records has in
    let some : c.in_ok-next-2.field-0 ≡ true = search rules in
    let found = found_some c.in_ok-next-2.field-0 (fields_of c.next-in-loop-row.new.fields) c.next-in-loop-row.new.reader inv.0 some (c.in_ok-next-2.ensures inv.0 inv.1) in
    let none : c.in_ok-joins.field-0 ≡ false = search rules in
    let stray = joins_not c.in_ok-joins.field-0 _ _ none c.in_ok-joins.ensures.joins in
    let same : with_fields c.loop-row.rows (fields_of c.next-in-loop-row.new.fields) ≡ None =
    ap (with_fields c.loop-row.rows) (sym c.in_ok-fields.ensures) ∙ stray in
    inv.2 ∙ (ap (λ (records : List (List (List ℕ))). steps_from record_step c.loop-row.rows (numbered c.loop-row.row records)) found.1
    ∙ not_joined c.loop-row.rows c.loop-row.row (fields_of c.next-in-loop-row.new.fields) found.0 same)

pub loop-row-preserved : goal.loop-row-preserved
loop-row-preserved c =
    let some : c.in_ok-next-2.field-0 ≡ true = search rules in
    let added : c.in_ok-joins.field-0 ≡ true = search rules in
    let more = joins c.in_ok-joins.field-0 _ _ added c.in_ok-joins.ensures.joins in
    let same : with_fields c.loop-row.rows (fields_of c.next-in-loop-row.new.fields) ≡ Some c.add-joins.new.rows =
    ap (with_fields c.loop-row.rows) (sym c.in_ok-fields.ensures) ∙ more in (
      λ records has.
          let inv = c.loop-row.invariant.0 records has in
          let found = found_some c.in_ok-next-2.field-0 (fields_of c.next-in-loop-row.new.fields) c.next-in-loop-row.new.reader inv.0 some (c.in_ok-next-2.ensures inv.0 inv.1) in (
            found.0,
            found.2,
            inv.2 ∙ (ap (λ (records : List (List (List ℕ))). steps_from record_step c.loop-row.rows (numbered c.loop-row.row records)) found.1
                ∙ joined_on c.loop-row.rows c.add-joins.new.rows c.loop-row.row (fields_of c.next-in-loop-row.new.fields) found.0 same),
          ),
      c.in_ok-joins.ensures.kept,
    )
