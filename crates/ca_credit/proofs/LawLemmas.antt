-- What an unexposable defect and an ample budget rule out.
use Rattle.std.proofs.Common.{ℕ, ◌+◌, ◌^◌, ◌≤◌, List, sym, subst}
use Rattle.ca_flat.specs.declared.chip_defect.ChipDefect.{ChipDefect}
use Rattle.ca_flat.specs.declared.token.Token.{Token}
use Rattle.ca_flat.specs.Codes.{IsSpentCode}
use Rattle.ca_flat.proofs.Codes.{no_code_is_spent_lem, pattern_bits_are_enough_lem}
use Rattle.ca_flat.proofs.Filled.{detected_is_exposable_lem}
use Rattle.ca_flat.proofs.PlainAbove.{suspect_is_allowed_lem}
use Rattle.ca_credit.specs.Defects.{Task, IsDefectAt}
use Rattle.ca_code.specs.Filled.{trits_of}
use Rattle.ca_credit.specs.Good.{IsAmple}
use Rattle.ca_credit.specs.Laws.{UnexposableIsUndetected, AmpleIsNeverAborted, PatternBitsAreNeverAborted}
use Rattle.ca_credit.specs.Laws.{SuspectIsAllowedByRows}

-- where the budget is ample no code is spent
pub not_ample : (task : Task) (place : ℕ) (defect : ChipDefect) (code : List Token)
    → IsDefectAt task place defect → IsSpentCode (task.chip_of place) defect task.budget code → IsAmple task → ⊥
not_ample task place defect code is spent ample =
    let support = ample place defect is in
    no_code_is_spent_lem (task.chip_of place) defect support.1.bits task.budget code support.1.all
    (subst (λ (n : ℕ). 2 ^ n ≤ task.budget + 1) (sym support.1.counted) support.2) spent

pub ample_is_never_aborted_lem : AmpleIsNeverAborted
ample_is_never_aborted_lem task pairs aims verdicts place defect code good ample has =
    not_ample task place defect code has.is_defect (good.aborted place defect code has).spent ample

pub unexposable_is_undetected_lem : UnexposableIsUndetected
unexposable_is_undetected_lem chip defect pair searchable not_exposable shown =
    detected_is_exposable_lem chip searchable.rank defect (trits_of pair) shown.output searchable.is_flat
    (searchable.is_flat.chip_is.observed shown.output shown.observed) shown.detects not_exposable

pub pattern_bits_are_never_aborted_lem : PatternBitsAreNeverAborted
pattern_bits_are_never_aborted_lem task pairs aims verdicts place defect code good much has =
    pattern_bits_are_enough_lem (task.chip_of place) defect task.budget code much
    (good.aborted place defect code has).spent

pub suspect_is_allowed_by_rows_lem : SuspectIsAllowedByRows
suspect_is_allowed_by_rows_lem chip defect pair firsts lasts searchable plain suspect good =
    let flat = searchable.is_flat in
    suspect_is_allowed_lem chip searchable.rank defect pair firsts lasts good flat.chip_is flat.good_is flat.defect_is
    plain suspect
