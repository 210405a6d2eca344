-- The first defects of which it is known whether they can be exposed, and one more; and the pair of a search.
use Rattle.std.proofs.Common.{ℕ, ◌≡◌, ◌<◌, ◌+◌, ◌∙◌, List, Option, Some, length, sym, ap, subst, arith}
use native.Mathlib.Decide.{ℕ_discrete}
use Rattle.std.proofs.lemmas.List.{length-set}
use Rattle.std.specs.Prelude.{slice_set}
use Rattle.ca_flat.specs.declared.chip_defect.ChipDefect.{ChipDefect}
use Rattle.ca_flat.specs.Chip.{Chip}
use Rattle.ca_credit.specs.declared.verdict.Verdict.{Verdict}
use Rattle.ca_credit.specs.declared.verdict.Verdict.TheVariants.{Unexposable}
use Rattle.ca_credit.specs.Defects.{Task, IsDefectAt, IsExposableIn}
use Rattle.ca_credit.specs.Table.{verdict_at}
use Rattle.ca_credit.proofs.TableLemmas.{verdict_at-set, verdict_at-other}
use Rattle.ca_generate.specs.declared.search_end.SearchEnd.{SearchEnd}
use Rattle.ca_generate.specs.Outcome.{IsSearchEnd}
use Rattle.ca_generate.specs.code.Progress.{IsScreened, IsScreenedEntry}

-- one more that can be exposed
pub screened_open : (task : Task) (count : ℕ) (table : List (Option Verdict)) → IsScreened task count table
    → ((defect : ChipDefect) → IsDefectAt task count defect → IsExposableIn (task.chip_of count) defect) → IsScreened task (count + 1) table
screened_open task count table is exposable = record {
  as_many = is.as_many;
  entries = λ place defect below at. elim (ℕ_discrete place count) [
    | yes e ↦ subst (λ verdict. IsScreenedEntry (task.chip_of place) defect verdict) (sym (is.others place (omega arith)))
        (subst (λ k. IsExposableIn (task.chip_of k) defect) (sym e) (exposable defect (subst (λ k. IsDefectAt task k defect) e at)))
    | no differ ↦ is.entries place defect (let far : place ≡ count → ⊥ = differ in omega arith) at
  ];
  others = λ place from. is.others place (omega arith);
}

-- one more that can't
pub screened_closed : (task : Task) (count : ℕ) (table new : List (Option Verdict)) → IsScreened task count table → count < length table
    → new ≡ slice_set table count (Some Unexposable)
    → ((defect : ChipDefect) → IsDefectAt task count defect → IsExposableIn (task.chip_of count) defect → ⊥) → IsScreened task (count + 1) new
screened_closed task count table new is within new_is closed = record {
  as_many = ap length new_is ∙ length-set table count (Some Unexposable) ∙ is.as_many;
  entries = λ place defect below at. elim (ℕ_discrete place count) [
    | yes e ↦ subst (λ verdict. IsScreenedEntry (task.chip_of place) defect verdict)
        (sym (ap (verdict_at new) e ∙ ap (λ list. verdict_at list count) new_is ∙ verdict_at-set table count (Some Unexposable) within))
        (λ exposed. closed defect (subst (λ k. IsDefectAt task k defect) e at)
        (subst (λ k. IsExposableIn (task.chip_of k) defect) e exposed))
    | no differ ↦ subst (λ verdict. IsScreenedEntry (task.chip_of place) defect verdict)
        (sym (ap (λ list. verdict_at list place) new_is ∙ verdict_at-other table count place (Some Unexposable) differ))
        (is.entries place defect (let far : place ≡ count → ⊥ = differ in omega arith) at)
  ];
  others = λ place from. ap (λ list. verdict_at list place) new_is
      ∙ verdict_at-other table count place (Some Unexposable) (λ e. absurd (omega arith)) ∙ is.others place (omega arith);
}

-- the end of a search for what was aimed at is that for the defect at its place
pub ended_here : (task same : Task) (aimed_in : Chip) (place : ℕ) (defect : ChipDefect) (given last : SearchEnd)
    → aimed_in ≡ task.chip_of place → same ≡ task → given ≡ last → IsSearchEnd aimed_in same.budget defect given
    → IsSearchEnd (task.chip_of place) task.budget defect last
ended_here task same aimed_in place defect given last chip_is same_is last_is is =
    subst (IsSearchEnd (task.chip_of place) task.budget defect) last_is
    (subst (λ (t : Task). IsSearchEnd (task.chip_of place) t.budget defect given) same_is
    (subst (λ (x : Chip). IsSearchEnd x same.budget defect given) chip_is is))
