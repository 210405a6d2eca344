-- What is promised of verdicts is enough for a report; and the counts of a summary.
use Rattle.std.proofs.Common.{◌≡◌, ℕ, ◌+◌, ◌<◌, Bool, true, false, cond, List, [], ◌∷◌, length, take, get_or}
use Rattle.std.proofs.Common.{refl, ap, ◌∙◌, subst, arith}
use Rattle.std.specs.Prelude.{Option, Some, None, IsSomeAnd, slice_get}
use Rattle.std.specs.List.{All, filter}
use Rattle.std.proofs.lemmas.List.Filters.{length-filter_more}
use Rattle.std.proofs.lemmas.List.{length-map}
use Rattle.std.proofs.lemmas.Option.{slice_get_within, slice_get-get_or, get_or_from_slice_get}
use Rattle.ca_flat.specs.declared.chip_defect.ChipDefect.{ChipDefect}
use Rattle.ca_flat.specs.Chip as flat
use Rattle.ca_flat.specs.Pair.{DetectsAt}
use Rattle.ca_code.specs.Filled.{trits_of}
use Rattle.ca_linked.specs.declared.parts.Body.{Body}
use Rattle.ca_linked.specs.declared.parts.Body.TheVariants.{Gate, Scan}
use Rattle.ca_linked.specs.declared.parts.Part.{Part}
use Rattle.ca_linked.specs.Linked.{LinkedChip, outputs_of, IsGate, IsLibrary}
use Rattle.ca_view.specs.Core.{core_net, core_of, body_rank, rank_in, rank_of}
use Rattle.ca_credit.specs.declared.verdict.Verdict.{Verdict}
use Rattle.ca_credit.specs.declared.verdict.Verdict.TheVariants.{Credited, Unexposable, Untestable, Aborted}
use Rattle.ca_credit.specs.Defects.{Task, IsOfOneChip}
use Rattle.ca_credit.specs.Detection.{IsFirstOutput, IsFirstDetection}
use Rattle.ca_credit.specs.Good.{IsGood}
use Rattle.ca_credit.proofs.DetectionLemmas.{in_chip}
use Rattle.ca_grade.specs.declared.grade.Grade.{Grade}
use Rattle.ca_grade.specs.declared.grade.Grade.TheVariants as grade
use Rattle.ca_grade.specs.Graded.{AreGraded}
use Rattle.ca_chip_report.specs.declared.summary.Kind.{Kind}
use Rattle.ca_chip_report.specs.declared.summary.Kind.TheVariants as kind
use Rattle.ca_chip_report.specs.ChipReport.{IsGateDefect, IsVerdictWithin, AreReported}
use Rattle.ca_chip_report.specs.Grades.{IsGradeWithin, AreGradesOf}
use Rattle.ca_chip_report.specs.Summary.{is_kind, count_of}
use Rattle.ca_chip_report.proofs.RowLemmas.{none_past}

-- a place that has something is within
pub some_within : {X : Type 0} (P : X → Type 0) (xs : List X) (k : ℕ) → IsSomeAnd (slice_get xs k) P → k < length xs
some_within {X} P xs k there = by (slice_get xs k) refl there
  where
    by : (o : Option X) → slice_get xs k ≡ o → IsSomeAnd o P → k < length xs
    by None at is = absurd is
    by (Some x) at is = slice_get_within xs k x at

-- the output of a first detection is an observed one
output_within : (core : flat.Chip) (defect : ChipDefect) (pairs : List (List Bool)) (pair output : ℕ)
    → IsFirstDetection core defect pairs pair output → output < length core.outputs
output_within core defect pairs pair output first = by (slice_get pairs pair) first.first_output
  where
    by : (o : Option (List Bool)) → IsSomeAnd o (IsFirstOutput core defect output) → output < length core.outputs
    by None is = absurd is
    by (Some bits) is = some_within (DetectsAt core defect (trits_of bits)) core.outputs output is.here

pub good_reported : (chip : LinkedChip) (task : Task) (pairs : List (List Bool)) (aims : List ℕ) (verdicts : List Verdict)
    → task.chip ≡ core_of chip → IsOfOneChip task → All (IsGateDefect chip) task.defects → IsGood task pairs aims verdicts
    → AreReported chip task.defects verdicts
good_reported chip task pairs aims verdicts is_core one gates good = record {
  defects_are = gates;
  one_each = good.one_each;
  outputs = λ k d lt. within k (get_or verdicts k d) (slice_get-get_or verdicts k d lt) lt;
}
  where
    outputs : length task.chip.outputs ≡ length (outputs_of chip)
    outputs = ap (λ (core : flat.Chip). length core.outputs) is_core ∙ length-map (outputs_of chip) (core_net chip)

    within : (k : ℕ) (verdict : Verdict) → slice_get verdicts k ≡ Some verdict → k < length verdicts
        → IsVerdictWithin (length (outputs_of chip)) verdict
    within k (Credited pair output) at lt = by (slice_get task.defects k) refl
      where
        by : (o : Option ChipDefect) → slice_get task.defects k ≡ o → output < length (outputs_of chip)
        by None none = absurd (let past = none_past task.defects k none in omega (arith, lt, good.one_each, past))
        by (Some defect) there =
            subst (λ count. output < count) outputs
            (output_within task.chip defect pairs pair output
            (in_chip task (λ core. IsFirstDetection core defect pairs pair output) k one
            (good.credited k pair output defect (record { is_defect = there; is_verdict = at }))))
    within k Unexposable at lt = tt
    within k Untestable at lt = tt
    within k (Aborted code) at lt = tt

pub ranked_library : (chip : LinkedChip) (u : ℕ) → 0 < rank_of chip u → IsLibrary chip u
ranked_library chip u ranked = by (slice_get chip.parts u) ranked
  where
    of_body : (place : ℕ) (body : Body) → 0 < body_rank place body → IsGate body
    of_body place (Gate cell inputs outputs) some = tt
    of_body place (Scan nets) some = absurd (omega (arith, some))

    by : (o : Option Part) → 0 < rank_in chip u o → IsSomeAnd o (λ part. IsGate part.body)
    by None some = absurd (omega (arith, some))
    by (Some part) some = of_body _ part.body some

-- each verdict is of one kind
one_kind : (verdict : Verdict)
    → cond (is_kind kind.Credited verdict) 1 0 + (cond (is_kind kind.Unexposable verdict) 1 0
    + (cond (is_kind kind.Untestable verdict) 1 0 + cond (is_kind kind.Aborted verdict) 1 0)) ≡ 1
one_kind (Credited pair output) = refl
one_kind Unexposable = refl
one_kind Untestable = refl
one_kind (Aborted code) = refl

-- the count with one more before
count_cons : (of : Kind) (verdict : Verdict) (verdicts : List Verdict)
    → count_of of (verdict ∷ verdicts) ≡ cond (is_kind of verdict) 1 0 + count_of of verdicts
count_cons of verdict verdicts = by (is_kind of verdict)
  where
    by : (test : Bool) → length (cond test (verdict ∷ filter (is_kind of) verdicts) (filter (is_kind of) verdicts))
        ≡ cond test 1 0 + length (filter (is_kind of) verdicts)
    by true = omega arith
    by false = omega arith

-- the counts of all kinds
pub counted : (verdicts : List Verdict)
    → count_of kind.Credited verdicts + (count_of kind.Unexposable verdicts
    + (count_of kind.Untestable verdicts + count_of kind.Aborted verdicts)) ≡ length verdicts
counted [] = refl
counted (verdict ∷ verdicts) =
    let more = counted verdicts in
    let one = one_kind verdict in
    let credited = count_cons kind.Credited verdict verdicts in
    let unexposable = count_cons kind.Unexposable verdict verdicts in
    let untestable = count_cons kind.Untestable verdict verdicts in
    let aborted = count_cons kind.Aborted verdict verdicts in
    omega (arith, more, one, credited, unexposable, untestable, aborted)

-- the count of one entry more that is of a kind
pub counted_more : {V : Type 0} (is_of : V → Bool) (entries : List V) (k count one : ℕ) (entry : V) (passed : Bool)
    → slice_get entries k ≡ Some entry → passed ≡ is_of entry → one ≡ cond passed 1 0
    → count ≡ length (filter is_of (take k entries)) → count + one ≡ length (filter is_of (take (k + 1) entries))
counted_more is_of entries k count one entry passed at is reports before =
    let last = length-filter_more is_of entries k entry (slice_get_within entries k entry at) in
    let read = ap (λ given. cond {A = ℕ} (is_of given) 1 0) (get_or_from_slice_get entries k entry entry at) in
    let here = reports ∙ ap (λ (test : Bool). cond {A = ℕ} test 1 0) is in
    omega (arith, last, read, here, before)

-- grades that are so are on the chip's defects, with observed outputs
pub graded_reported : (chip : LinkedChip) (task : Task) (pairs : List (List Bool)) (grades : List Grade)
    → task.chip ≡ core_of chip → IsOfOneChip task → All (IsGateDefect chip) task.defects → AreGraded task pairs grades
    → AreGradesOf chip task.defects grades
graded_reported chip task pairs grades is_core one gates graded = record {
  defects_are = gates;
  one_each = graded.one_each;
  outputs = λ k d lt. within k (get_or grades k d) (slice_get-get_or grades k d lt) lt;
}
  where
    outputs : length task.chip.outputs ≡ length (outputs_of chip)
    outputs = ap (λ (core : flat.Chip). length core.outputs) is_core ∙ length-map (outputs_of chip) (core_net chip)

    within : (k : ℕ) (given : Grade) → slice_get grades k ≡ Some given → k < length grades
        → IsGradeWithin (length (outputs_of chip)) given
    within k (grade.Credited pair output) at lt = by (slice_get task.defects k) refl
      where
        by : (o : Option ChipDefect) → slice_get task.defects k ≡ o → output < length (outputs_of chip)
        by None none = absurd (let past = none_past task.defects k none in omega (arith, lt, graded.one_each, past))
        by (Some defect) there =
            subst (λ count. output < count) outputs
            (output_within task.chip defect pairs pair output
            (in_chip task (λ core. IsFirstDetection core defect pairs pair output) k one
            (graded.each k defect (grade.Credited pair output) there at).first))
    within k grade.Unexposable at lt = tt
    within k grade.Uncredited at lt = tt
