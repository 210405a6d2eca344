-- What a table says after some pairs, and after one more.
use Rattle.std.proofs.Common.{◌≡◌, ℕ, ◌+◌, ◌<◌, ◌≤◌, Bool, List, [], ◌∷◌, ◌++◌, length, map, take, ap, sym}
use Rattle.std.proofs.Common.{◌∙◌, arith, refl, subst, inl, inr}
use Rattle.std.specs.Prelude.{Option, Some, None, IsSomeAnd, slice_get, option_map}
use Rattle.std.proofs.lemmas.List.{take_more, length-map}
use Rattle.std.proofs.Math.Seq.{take-length}
use Rattle.std.proofs.lemmas.List.Elements.{All-push}
use Rattle.std.proofs.lemmas.Option.{slice_get_within, slice_get-map, get_or_from_slice_get}
use Rattle.ca_flat.specs.declared.chip_defect.ChipDefect.{ChipDefect}
use Rattle.ca_flat.specs.Chip.{Chip}
use Rattle.ca_credit.specs.declared.verdict.Verdict.{Verdict}
use Rattle.ca_credit.specs.declared.verdict.Verdict.TheVariants as verdict
use Rattle.ca_credit.specs.Defects.{Task}
use Rattle.ca_credit.specs.Detection.{Detects, NoneDetects, IsFirstOutput}
use Rattle.ca_credit.specs.Table.{verdict_at, IsAfterPair, CreditsPair}
use Rattle.ca_grade.specs.declared.grade.Grade.{Grade}
use Rattle.ca_grade.specs.Graded.{IsGrade, AreGraded}
use Rattle.ca_grade.specs.code.Table.{grade_of, IsVerdictAfter, AreVerdictsAfter, AreMarkedUpTo}

-- no pair of one more detects the defect
none_more : (chip : Chip) (defect : ChipDefect) (pairs : List (List Bool)) (n : ℕ) (pair : List Bool) → slice_get pairs n ≡ Some pair
    → ¬ (Detects chip defect pair) → NoneDetects chip defect (take n pairs) → NoneDetects chip defect (take (n + 1) pairs)
none_more chip defect pairs n pair at undetected none =
    let within = slice_get_within pairs n pair at in
    let is : take (n + 1) pairs ≡ take n pairs ++ pair ∷ [] =
    take_more pairs n pair within ∙ ap (λ (one : List Bool). take n pairs ++ one ∷ []) (get_or_from_slice_get pairs n pair pair at) in
    subst (NoneDetects chip defect) (sym is) (All-push (λ one. ¬ (Detects chip defect one)) (take n pairs) pair none undetected)

-- what one more pair makes of a verdict
step : (chip : Chip) (pairs : List (List Bool)) (n : ℕ) (pair : List Bool) (defect : ChipDefect) (old new : Option Verdict)
    → slice_get pairs n ≡ Some pair → IsVerdictAfter chip pairs n defect old → IsAfterPair chip pair n defect old new
    → IsVerdictAfter chip pairs (n + 1) defect new
step chip pairs n pair defect None new at before (inl credit) =
    subst (IsVerdictAfter chip pairs (n + 1) defect) (sym credit.credited) (record {
      exposable = before.exposable;
      first = record {
        first_pair = record {
          here = subst (λ found. IsSomeAnd found (Detects chip defect)) (sym at) credit.detects;
          none_before = before.undetected;
        };
        first_output = subst (λ found. IsSomeAnd found (IsFirstOutput chip defect credit.output)) (sym at) credit.first;
      };
    })
step chip pairs n pair defect None new at before (inr kept) =
    subst (IsVerdictAfter chip pairs (n + 1) defect) (sym kept.same) (record {
      exposable = before.exposable;
      undetected = none_more chip defect pairs n pair at kept.undetected before.undetected;
    })
step chip pairs n pair defect (Some (verdict.Credited first output)) new at before after =
    subst (IsVerdictAfter chip pairs (n + 1) defect) (sym after) before
step chip pairs n pair defect (Some verdict.Unexposable) new at before after =
    subst (IsVerdictAfter chip pairs (n + 1) defect) (sym after) before
step chip pairs n pair defect (Some verdict.Untestable) new at before after = absurd before
step chip pairs n pair defect (Some (verdict.Aborted code)) new at before after = absurd before

-- what one more pair makes of the table
pub after_pair : (task : Task) (pairs : List (List Bool)) (n : ℕ) (pair : List Bool) (old new : List (Option Verdict))
    → slice_get pairs n ≡ Some pair → AreVerdictsAfter task pairs n old → CreditsPair task pair n old new
    → AreVerdictsAfter task pairs (n + 1) new
after_pair task pairs n pair old new at before credits = record {
  as_many = credits.as_many ∙ before.as_many;
  each = λ place defect is.
      let within = slice_get_within task.defects place defect is in
      let below : place < length old = let many = before.as_many in omega (arith, within, many) in
      step (task.chip_of place) pairs n pair defect (verdict_at old place) (verdict_at new place) at (before.each place defect is)
      (credits.each place defect below is);
}

-- no pair was credited yet
pub at_first : (task : Task) (pairs : List (List Bool)) (count : ℕ) (table : List (Option Verdict)) → length task.defects ≤ count
    → AreMarkedUpTo task count table → AreVerdictsAfter task pairs 0 table
at_first task pairs count table all marked = record {
  as_many = marked.as_many;
  each = λ place defect is.
      let within = slice_get_within task.defects place defect is in
      of (task.chip_of place) defect (verdict_at table place) (marked.each place defect (omega (arith, within, all)) is);
}
  where
    of : (chip : Chip) (defect : ChipDefect) (given : Option Verdict) → IsVerdictAfter chip [] 0 defect given
        → IsVerdictAfter chip pairs 0 defect given
    of chip defect None is = is
    of chip defect (Some (verdict.Credited pair output)) is = absurd is.first.first_pair.here
    of chip defect (Some verdict.Unexposable) is = is
    of chip defect (Some verdict.Untestable) is = is
    of chip defect (Some (verdict.Aborted code)) is = is

-- the grades after all pairs
pub graded : (task : Task) (pairs : List (List Bool)) (table : List (Option Verdict)) (grades : List Grade)
    → AreVerdictsAfter task pairs (length pairs) table → grades ≡ map grade_of table → AreGraded task pairs grades
graded task pairs table grades after is = record {
  one_each = ap length is ∙ length-map table grade_of ∙ after.as_many;
  each = λ place defect grade at found.
      by (task.chip_of place) place defect grade (slice_get table place) refl
      (sym (slice_get-map grade_of table place) ∙ ap (λ (list : List Grade). slice_get list place) (sym is) ∙ found)
      (after.each place defect at);
}
  where
    of : (chip : Chip) (defect : ChipDefect) (given : Option Verdict) → IsVerdictAfter chip pairs (length pairs) defect given
        → IsGrade chip pairs defect (grade_of given)
    of chip defect None said = record {
      exposable = said.exposable;
      undetected = subst (NoneDetects chip defect) (take-length pairs) said.undetected;
    }
    of chip defect (Some (verdict.Credited pair output)) said = said
    of chip defect (Some verdict.Unexposable) said = said
    of chip defect (Some verdict.Untestable) said = absurd said
    of chip defect (Some (verdict.Aborted code)) said = absurd said

    by : (chip : Chip) (place : ℕ) (defect : ChipDefect) (grade : Grade) (o : Option (Option Verdict)) → slice_get table place ≡ o
        → option_map grade_of o ≡ Some grade → IsVerdictAfter chip pairs (length pairs) defect (verdict_at table place)
        → IsGrade chip pairs defect grade
    by chip place defect grade None at found said = absurd (let clash : None ≡ Some grade = found in cc)
    by chip place defect grade (Some given) at found said =
        let same : grade_of given ≡ grade = cc in
        subst (IsGrade chip pairs defect) same
        (of chip defect given (subst (IsVerdictAfter chip pairs (length pairs) defect) (get_or_from_slice_get table place given None at) said))
