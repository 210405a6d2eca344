-- Rows of a report, and what they are made of.
use Rattle.std.proofs.Common.{◌≡◌, ℕ, zero, suc, ◌<◌, ◌≤◌, List, [], ◌∷◌, length, map, refl, sym, ap, ◌∙◌, subst}
use Rattle.std.proofs.Common.{arith}
use Rattle.std.specs.Prelude.{Option, Some, None, IsSomeAnd, slice_get}
use Rattle.std.specs.List.{All}
use Rattle.std.proofs.lemmas.Simd.{length-zip2}
use Rattle.std.proofs.lemmas.List.{length-map}
use Rattle.std.proofs.lemmas.List.Elements.{All-nil, All-cons, All-head, All-tail}
use Rattle.std.proofs.lemmas.Option.{slice_get_within}
use Rattle.ca_cell.specs.declared.raw.RawCell.{RawCell}
use Rattle.ca_flat.specs.declared.chip_defect.ChipDefect.{ChipDefect}
use Rattle.ca_flat.specs.Chip.{cell_at}
use Rattle.ca_linked.specs.declared.parts.Body.{Body}
use Rattle.ca_linked.specs.declared.parts.Body.TheVariants.{Gate, Scan}
use Rattle.ca_linked.specs.declared.parts.Part.{Part}
use Rattle.ca_linked.specs.Linked.{LinkedChip, outputs_of, IsGate}
use Rattle.ca_linked.specs.Instances.{IsCellOf}
use Rattle.ca_view.specs.Core.{core_instance, core_of}
use Rattle.ca_view.proofs.CorePartLemmas.{core_at}
use Rattle.ca_credit.specs.declared.verdict.Verdict.{Verdict}
use Rattle.ca_credit.specs.declared.verdict.Verdict.TheVariants.{Credited, Unexposable, Untestable, Aborted}
use Rattle.ca_grade.specs.declared.grade.Grade.{Grade}
use Rattle.ca_grade.specs.declared.grade.Grade.TheVariants as grade
use Rattle.ca_linked.proofs.PartLemmas.{of_all}
use Rattle.ca_report.specs.declared.rows.ReportRow.{ReportRow}
use Rattle.ca_report.specs.declared.verdict.Verdict as report
use Rattle.ca_report.specs.Report.{IsVerdictOf, IsRowOf}
use Rattle.ca_chip_report.specs.ChipReport.{reported_of, instance_name, cell_name, row_of, rows_of}
use Rattle.ca_chip_report.specs.ChipReport.{IsGateDefect, IsVerdictWithin, AreReported}
use Rattle.ca_chip_report.specs.Grades.{reported_grade, IsGradeWithin, AreGradesOf}
use Rattle.ca_chip_report.specs.code.Rows.{AreRows}

-- a library instance is one of the chip's
pub gate_within : (chip : LinkedChip) (defect : ChipDefect) → IsGateDefect chip defect → defect.instance < length chip.parts
gate_within chip defect is = by (slice_get chip.parts defect.instance) refl is.is_gate
  where
    by : (o : Option Part) → slice_get chip.parts defect.instance ≡ o → IsSomeAnd o (λ part. IsGate part.body)
        → defect.instance < length chip.parts
    by None at gate = absurd gate
    by (Some part) at gate = slice_get_within chip.parts defect.instance part at

pub name_reported : (at : Option Part) (name : List ℕ) → IsSomeAnd at (λ part. part.name ≡ name) → instance_name at ≡ name
name_reported None name there = absurd there
name_reported (Some part) name there = there

pub cell_reported : (at : Option Part) (name : List ℕ) → IsSomeAnd at (λ part. part.cell ≡ name) → cell_name at ≡ name
cell_reported None name there = absurd there
cell_reported (Some part) name there = there

-- the cell of a library instance is that of the core
pub core_cell : (chip : LinkedChip) (u : ℕ) (raw : RawCell)
    → IsSomeAnd (slice_get chip.parts u) (λ part. IsCellOf chip.cells part.body raw) → raw ≡ cell_at (core_of chip) u
core_cell chip u raw there = by (slice_get chip.parts u) refl there
  where
    of_body : (body : Body) → IsCellOf chip.cells body raw → raw ≡ (core_instance chip body).cell
    of_body (Gate cell inputs outputs) is = is
    of_body (Scan nets) is = absurd is

    by : (o : Option Part) → slice_get chip.parts u ≡ o → IsSomeAnd o (λ part. IsCellOf chip.cells part.body raw)
        → raw ≡ cell_at (core_of chip) u
    by None at is = absurd is
    by (Some part) at is = of_body part.body is ∙ sym (ap (λ instance. instance.cell) (core_at chip u part at))

-- a place that has nothing is past the list
pub none_past : {X : Type 0} (xs : List X) (n : ℕ) → slice_get xs n ≡ None → length xs ≤ n
none_past [] n is = omega arith
none_past (x ∷ xs) zero is = absurd (let clash : Some x ≡ None = is in cc)
none_past (x ∷ xs) (suc n) is = let more = none_past xs n is in omega (arith, more)

-- a row is that of a defect
pub row_within : (chip : LinkedChip) (defects : List ChipDefect) (reported : List report.Verdict) (k : ℕ)
    → AreRows chip defects reported → k < length (rows_of chip defects reported) → k < length defects
row_within chip defects reported k are below =
    let long = length-zip2 (row_of chip) defects reported (sym are.one_each) in omega (arith, long, below)

row_at : (chip : LinkedChip) (defects : List ChipDefect) (reported : List report.Verdict) (k : ℕ) (defect : ChipDefect)
    (verdict : report.Verdict) → slice_get defects k ≡ Some defect → slice_get reported k ≡ Some verdict
    → slice_get (rows_of chip defects reported) k ≡ Some (row_of chip defect verdict)
row_at chip [] reported k defect verdict at also = absurd (let clash : None ≡ Some defect = at in cc)
row_at chip (first ∷ defects) [] k defect verdict at also = absurd (let clash : None ≡ Some verdict = also in cc)
row_at chip (first ∷ defects) (one ∷ reported) zero defect verdict at also =
    let same : first ≡ defect = cc in
    let too : one ≡ verdict = cc in
    (λ j. Some (row_of chip (same j) (too j)))
row_at chip (first ∷ defects) (one ∷ reported) (suc k) defect verdict at also =
    row_at chip defects reported k defect verdict at also

-- what holds of the row of a defect, whatever is reported of it
pub row_reported : (P : ReportRow → Type 0) (chip : LinkedChip) (defects : List ChipDefect) (reported : List report.Verdict) (k : ℕ)
    (defect : ChipDefect) → AreRows chip defects reported → slice_get defects k ≡ Some defect
    → ((verdict : report.Verdict) → P (row_of chip defect verdict))
    → IsSomeAnd (slice_get (rows_of chip defects reported) k) P
row_reported P chip defects reported k defect are at holds = by (slice_get reported k) refl
  where
    by : (o : Option report.Verdict) → slice_get reported k ≡ o → IsSomeAnd (slice_get (rows_of chip defects reported) k) P
    by None none =
        let past = none_past reported k none in
        let below = slice_get_within defects k defect at in
        absurd (omega (arith, past, are.one_each, below))
    by (Some verdict) some =
        subst (λ o. IsSomeAnd o P) (sym (row_at chip defects reported k defect verdict at some)) (holds verdict)

-- what a row says was found of its defect
pub verdict_reported : (chip : LinkedChip) (defects : List ChipDefect) (reported : List report.Verdict) (k : ℕ)
    (verdict : report.Verdict) → AreRows chip defects reported → slice_get reported k ≡ Some verdict
    → IsSomeAnd (slice_get (rows_of chip defects reported) k) (λ row. row.verdict ≡ verdict)
verdict_reported chip defects reported k verdict are at = by (slice_get defects k) refl
  where
    by : (o : Option ChipDefect) → slice_get defects k ≡ o
        → IsSomeAnd (slice_get (rows_of chip defects reported) k) (λ row. row.verdict ≡ verdict)
    by None none =
        let past = none_past defects k none in
        let below = slice_get_within reported k verdict at in
        absurd (omega (arith, past, are.one_each, below))
    by (Some defect) some =
        subst (λ o. IsSomeAnd o (λ row. row.verdict ≡ verdict)) (sym (row_at chip defects reported k defect verdict some at)) refl

-- the defect of a row is one of a library instance
pub gate_at : (chip : LinkedChip) (defects : List ChipDefect) (reported : List report.Verdict) (k : ℕ) (defect : ChipDefect)
    → AreRows chip defects reported → slice_get defects k ≡ Some defect → IsGateDefect chip defect
gate_at chip defects reported k defect are at = of_all (IsGateDefect chip) defects k defect are.defects_are at

-- there are as many rows as defects
pub row_count : (chip : LinkedChip) (defects : List ChipDefect) (reported : List report.Verdict) → AreRows chip defects reported
    → length defects ≡ length (rows_of chip defects reported)
row_count chip defects reported are = sym (length-zip2 (row_of chip) defects reported (sym are.one_each))

-- each row credits an observed output, if it credits one
pub rows_fit : (outputs : ℕ) (chip : LinkedChip) (defects : List ChipDefect) (reported : List report.Verdict)
    → All (IsVerdictOf outputs) reported → All (IsRowOf outputs) (rows_of chip defects reported)
rows_fit outputs chip [] reported all = All-nil (IsRowOf outputs)
rows_fit outputs chip (defect ∷ defects) [] all = All-nil (IsRowOf outputs)
rows_fit outputs chip (defect ∷ defects) (verdict ∷ reported) all =
    All-cons (IsRowOf outputs) (row_of chip defect verdict) (rows_of chip defects reported)
    (All-head (IsVerdictOf outputs) verdict reported all)
    (rows_fit outputs chip defects reported (All-tail (IsVerdictOf outputs) verdict reported all))

-- what is reported of each of a list
all_reported : {X : Type 0} (P : X → Type 0) (Q : report.Verdict → Type 0) (to : X → report.Verdict)
    → ((x : X) → P x → Q (to x)) → (xs : List X) → All P xs → All Q (map to xs)
all_reported P Q to next [] all = All-nil Q
all_reported P Q to next (x ∷ xs) all =
    All-cons Q (to x) (map to xs) (next x (All-head P x xs all)) (all_reported P Q to next xs (All-tail P x xs all))

verdict_within : (outputs : ℕ) (verdict : Verdict) → IsVerdictWithin outputs verdict → IsVerdictOf outputs (reported_of verdict)
verdict_within outputs (Credited pair output) is = is
verdict_within outputs Unexposable is = tt
verdict_within outputs Untestable is = tt
verdict_within outputs (Aborted code) is = tt

grade_within : (outputs : ℕ) (given : Grade) → IsGradeWithin outputs given → IsVerdictOf outputs (reported_grade given)
grade_within outputs (grade.Credited pair output) is = is
grade_within outputs grade.Unexposable is = tt
grade_within outputs grade.Uncredited is = tt

-- verdicts of which a report is asked are rows
pub verdicts_are_rows : (chip : LinkedChip) (defects : List ChipDefect) (verdicts : List Verdict)
    → AreReported chip defects verdicts → AreRows chip defects (map reported_of verdicts)
verdicts_are_rows chip defects verdicts are = record {
  defects_are = are.defects_are;
  one_each = length-map verdicts reported_of ∙ are.one_each;
  outputs = all_reported (IsVerdictWithin (length (outputs_of chip))) (IsVerdictOf (length (outputs_of chip))) reported_of
      (verdict_within (length (outputs_of chip))) verdicts are.outputs;
}

-- so are grades
pub grades_are_rows : (chip : LinkedChip) (defects : List ChipDefect) (grades : List Grade)
    → AreGradesOf chip defects grades → AreRows chip defects (map reported_grade grades)
grades_are_rows chip defects grades are = record {
  defects_are = are.defects_are;
  one_each = length-map grades reported_grade ∙ are.one_each;
  outputs = all_reported (IsGradeWithin (length (outputs_of chip))) (IsVerdictOf (length (outputs_of chip))) reported_grade
      (grade_within (length (outputs_of chip))) grades are.outputs;
}
