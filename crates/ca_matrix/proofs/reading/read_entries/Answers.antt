use Rattle.std.proofs.Common.{◌≡◌, ◌∙◌, ◌≤◌, ◌<◌, ◌++◌, ◌∷◌, ◌+◌, ℕ, List, length, true, false, refl, ap, sym}
use Rattle.std.proofs.Common.{subst, arith, rules}
use Rattle.csv.specs.Records.{fields_of}
use Rattle.ca_csv.proofs.CsvLemmas.{found_none, found_some}
use Rattle.ca_matrix.specs.Matrix.{record_count}
use Rattle.ca_matrix.specs.Text.{header_of, records_from}
use Rattle.ca_matrix.proofs.FieldLemmas.{append_none}
use Rattle.ca_matrix.proofs.ReadLemmas.{not_taken, taken, no_header, same_header, missing, malformed}
use Rattle.ca_matrix.proofs.ReadLemmas.{one_taken, wider}
use Rattle.ca_net.specs.declared.trit.Trit.{Trit}
use Rattle.ca_matrix.proofs.reading.read_entries.Goals as goal

pub returns-then-not-branch-clause-cause : goal.returns-then-not-branch-clause-cause
returns-then-not-branch-clause-cause c = λ records has others begins.
    let none : c.in_ok-next.field-0 ≡ false = search rules in
    no_header records _ others (found_none c.in_ok-next.field-0 (fields_of c.next.new.fields) c.next.new.reader records none (c.in_ok-next.ensures records has)) begins

pub returns-then-not-same_fields-clause-cause : goal.returns-then-not-same_fields-clause-cause
returns-then-not-same_fields-clause-cause c = λ records has others begins.
    let some : c.in_ok-next.field-0 ≡ true = search rules in
    let found = found_some c.in_ok-next.field-0 (fields_of c.next.new.fields) c.next.new.reader records some (c.in_ok-next.ensures records has) in
    let same = same_header records (fields_of c.next.new.fields) _ found.0 others found.1 begins in
    let equal = c.if-not-same_fields.ensures.1 (same ∙ sym c.in_ok-fill_header.ensures) in
    cc equal

pub loop-k-init : goal.loop-k-init
loop-k-init c = (
  λ records has.
      let some : c.in_ok-next.field-0 ≡ true = search rules in
      let found = found_some c.in_ok-next.field-0 (fields_of c.next.new.fields) c.next.new.reader records some (c.in_ok-next.ensures records has) in
      let same : fields_of c.next.new.fields ≡ header_of c.args.shape.now = c.if-not-same_fields.ensures.0 (search rules) ∙ c.in_ok-fill_header.ensures in (
        found.0,
        found.2,
        found.1 ∙ ap (λ fields. fields ∷ found.0) same
            ∙ ap (λ (entries : List Trit). header_of c.args.shape.now ∷ (records_from c.args.shape.now 0 0 entries ++ found.0)) (sym c.requires.entries),
      ),
  ap length c.requires.entries ∙ omega arith,
  omega arith,
)

pub returns-then-not-branch-2-clause-cause : goal.returns-then-not-branch-2-clause-cause
returns-then-not-branch-2-clause-cause c = λ records has.
    let inv = c.loop-k.invariant in
    let following = inv.0 records has in
    let none : c.in_ok-next-2.field-0 ≡ false = search rules in
    let left = found_none c.in_ok-next-2.field-0 (fields_of c.next-in-loop-k.new.fields) c.next-in-loop-k.new.reader following.0 none (c.in_ok-next-2.ensures following.0 following.1) in
    let below : c.loop-k.k < record_count c.args.shape.now = subst (λ (due : ℕ). c.loop-k.k < due) c.record_count-due.ensures.count c.loop-k-test.true in
    (_, c.loop-k.k, following.2, refl, missing c.args.shape.now c.loop-k.k c.loop-k.entries.items following.0 inv.1 below left)

pub returns-then-not-branch-3-clause-cause : goal.returns-then-not-branch-3-clause-cause
returns-then-not-branch-3-clause-cause c = λ records has.
    let inv = c.loop-k.invariant in
    let following = inv.0 records has in
    let some : c.in_ok-next-2.field-0 ≡ true = search rules in
    let none : c.in_ok-take_record.field-0 ≡ false = search rules in
    let found = found_some c.in_ok-next-2.field-0 (fields_of c.next-in-loop-k.new.fields) c.next-in-loop-k.new.reader following.0 some (c.in_ok-next-2.ensures following.0 following.1) in
    let stray = not_taken c.in_ok-take_record.field-0 c.args.shape.now c.loop-k.k (fields_of c.next-in-loop-k.new.fields) c.loop-k.entries.items c.take_record.new.entries.items none c.in_ok-take_record.ensures in
    (_, c.loop-k.k, following.2, refl, malformed c.args.shape.now c.loop-k.k c.loop-k.entries.items following.0 (fields_of c.next-in-loop-k.new.fields) found.0 inv.1 inv.2 found.1 (λ below. stray))

pub loop-k-preserved : goal.loop-k-preserved
loop-k-preserved c =
    let inv = c.loop-k.invariant in
    let shape = c.args.shape.now in
    let due : c.in_ok-take_record.field-0 ≡ true = search rules in
    let took = taken c.in_ok-take_record.field-0 shape c.loop-k.k (fields_of c.next-in-loop-k.new.fields) c.loop-k.entries.items c.take_record.new.entries.items due c.in_ok-take_record.ensures in
    let below : c.loop-k.k < record_count shape = subst (λ (count : ℕ). c.loop-k.k < count) c.record_count-due.ensures.count c.loop-k-test.true in (
      λ records has.
          let following = inv.0 records has in
          let some : c.in_ok-next-2.field-0 ≡ true = search rules in
          let found = found_some c.in_ok-next-2.field-0 (fields_of c.next-in-loop-k.new.fields) c.next-in-loop-k.new.reader following.0 some (c.in_ok-next-2.ensures following.0 following.1) in
          let more = one_taken shape c.loop-k.k c.loop-k.entries.items c.take_record.new.entries.items following.0 (fields_of c.next-in-loop-k.new.fields) found.0 took.0 inv.1 found.1 took.1 in
          (found.0, found.2, following.2 ∙ ap (λ rest. header_of shape ∷ rest) more),
      wider shape c.loop-k.k c.loop-k.entries.items c.take_record.new.entries.items (fields_of c.next-in-loop-k.new.fields) took.0 inv.1 took.1,
      omega (arith, below),
    )

pub returns-then-branch-clause-cause : goal.returns-then-branch-clause-cause
returns-then-branch-clause-cause c = λ records has.
    let inv = c.loop-k.invariant in
    let following = inv.0 records has in
    let some : c.in_ok-next-3.field-0 ≡ true = search rules in
    let found = found_some c.in_ok-next-3.field-0 (fields_of c.next-2.new.fields) c.next-2.new.reader following.0 some (c.in_ok-next-3.ensures following.0 following.1) in
    let count = c.record_count-due.ensures.count in
    let past : record_count c.args.shape.now ≤ c.loop-k.k = omega (arith, count, c.loop-k-test.false) in
    let all : c.record_count-due.result ≡ c.loop-k.k = omega (arith, count, past, inv.2) in (
      _,
      c.loop-k.k,
      following.2,
      ap (λ n. n + 2) all,
      malformed c.args.shape.now c.loop-k.k c.loop-k.entries.items following.0 (fields_of c.next-2.new.fields) found.0 inv.1 inv.2 found.1 (λ below. absurd (omega (arith, below, past))),
    )

pub returns-clause-ok : goal.returns-clause-ok
returns-clause-ok c = λ records has.
    let inv = c.loop-k.invariant in
    let following = inv.0 records has in
    let none : c.in_ok-next-3.field-0 ≡ false = search rules in
    let left = found_none c.in_ok-next-3.field-0 (fields_of c.next-2.new.fields) c.next-2.new.reader following.0 none (c.in_ok-next-3.ensures following.0 following.1) in
    let count = c.record_count-due.ensures.count in
    let all : c.loop-k.k ≡ record_count c.args.shape.now = omega (arith, count, c.loop-k-test.false, inv.2) in
    let shape = c.args.shape.now in
    let read = records_from shape 0 c.loop-k.k c.loop-k.entries.items in
    following.2 ∙ ap (λ rest. header_of shape ∷ rest)
    (ap (λ rest. read ++ rest) left ∙ append_none read ∙ ap (λ (n : ℕ). records_from shape 0 n c.loop-k.entries.items) all)
