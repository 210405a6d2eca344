use Rattle.std.proofs.Common.{◌≡◌, ◌∙◌, List, true, false, ap, sym, rules}
use Rattle.csv.specs.Records.{fields_of}
use Rattle.ca_csv.proofs.CsvLemmas.{found_none, found_some}
use Rattle.ca_cell.specs.declared.strength.Ratio.{Ratio}
use Rattle.ca_strengths.specs.StrengthText.{is_header, strengths_with, ratios_from}
use Rattle.ca_strengths.proofs.ReadLemmas.{after_header, no_header, no_record, joined_on, not_joined, joins, joins_not}
use Rattle.ca_strengths.proofs.read.read_records.Goals as goal

pub returns-then-not-branch : goal.returns-then-not-branch
returns-then-not-branch c = λ records has.
    let none : c.in_ok-next.field-0 ≡ false = search rules in
    ap strengths_with (found_none c.in_ok-next.field-0 (fields_of c.next.new.fields) c.next.new.reader records none (c.in_ok-next.ensures records has))
    ∙ no_record

pub returns-then-not-is_header : goal.returns-then-not-is_header
returns-then-not-is_header c = λ records has.
    let some : c.in_ok-next.field-0 ≡ true = search rules in
    let found = found_some c.in_ok-next.field-0 (fields_of c.next.new.fields) c.next.new.reader records some (c.in_ok-next.ensures records has) in
    let test : is_header (fields_of c.next.new.fields) ≡ false = search rules in
    ap strengths_with found.1 ∙ no_header (fields_of c.next.new.fields) found.0 test

pub loop-row-init : goal.loop-row-init
loop-row-init c = λ records has.
    let some : c.in_ok-next.field-0 ≡ true = search rules in
    let found = found_some c.in_ok-next.field-0 (fields_of c.next.new.fields) c.next.new.reader records some (c.in_ok-next.ensures records has) in
    let test : is_header (fields_of c.next.new.fields) ≡ true = search rules in (
      found.0,
      found.2,
      ap strengths_with found.1
          ∙ (after_header (fields_of c.next.new.fields) found.0 test
          ∙ ap (λ (ratios : List Ratio). ratios_from 2 ratios found.0) (sym c.requires.none)),
    )

pub returns-then-not-branch-2 : goal.returns-then-not-branch-2
returns-then-not-branch-2 c = λ records has.
    let inv = c.loop-row.invariant records has in
    let none : c.in_ok-next-2.field-0 ≡ false = search rules in
    let left = found_none c.in_ok-next-2.field-0 (fields_of c.next-in-loop-row.new.fields) c.next-in-loop-row.new.reader inv.0 none (c.in_ok-next-2.ensures inv.0 inv.1) in
    rw (inv.2 ∙ ap (ratios_from c.loop-row.row c.loop-row.ratios) left) c.whole.ensures

pub returns-then-not-branch-3 : goal.returns-then-not-branch-3
returns-then-not-branch-3 c = λ records has.
    let inv = c.loop-row.invariant records has in
    let some : c.in_ok-next-2.field-0 ≡ true = search rules in
    let found = found_some c.in_ok-next-2.field-0 (fields_of c.next-in-loop-row.new.fields) c.next-in-loop-row.new.reader inv.0 some (c.in_ok-next-2.ensures inv.0 inv.1) in
    let none : c.in_ok-add.field-0 ≡ false = search rules in
    let stray = joins_not c.in_ok-add.field-0 _ _ none c.in_ok-add.ensures in
    inv.2 ∙ (ap (ratios_from c.loop-row.row c.loop-row.ratios) found.1
    ∙ not_joined c.loop-row.ratios c.loop-row.row (fields_of c.next-in-loop-row.new.fields) found.0 stray)

pub loop-row-preserved : goal.loop-row-preserved
loop-row-preserved c = λ records has.
    let inv = c.loop-row.invariant records has in
    let some : c.in_ok-next-2.field-0 ≡ true = search rules in
    let found = found_some c.in_ok-next-2.field-0 (fields_of c.next-in-loop-row.new.fields) c.next-in-loop-row.new.reader inv.0 some (c.in_ok-next-2.ensures inv.0 inv.1) in
    let added : c.in_ok-add.field-0 ≡ true = search rules in
    let more = joins c.in_ok-add.field-0 _ _ added c.in_ok-add.ensures in (
      found.0,
      found.2,
      inv.2 ∙ (ap (ratios_from c.loop-row.row c.loop-row.ratios) found.1
          ∙ joined_on c.loop-row.ratios c.add.new.ratios c.loop-row.row (fields_of c.next-in-loop-row.new.fields) found.0 more),
    )
