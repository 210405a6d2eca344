-- Detections, from last values.
use Rattle.std.proofs.Common.{◌≡◌, ℕ, ◌<◌, ◌≤◌, List, length, true, None, Some}
use Rattle.std.proofs.Common.{Option, sym, subst, arith, get_or}
use Rattle.std.specs.Prelude.{IsSomeAnd}
use Rattle.std.proofs.lemmas.Option.{slice_get-get_or}
use Rattle.std.proofs.lemmas.List.{get_or-take, length-take-le}
use Rattle.std.proofs.lemmas.List.Elements.{Contains-get_or}
use Rattle.ca_net.specs.declared.trit.Trit.{Trit}
use Rattle.ca_cell.specs.declared.row.Row.{Row}
use Rattle.ca_flat.specs.declared.chip_defect.ChipDefect.{ChipDefect}
use Rattle.ca_flat.specs.Chip.{Chip, IsChip, IsDefectIn, net_of}
use Rattle.ca_flat.specs.Pair.{DetectsAt, IsShown}
use Rattle.ca_flat.specs.Rows.{ListsExposingRows}
use Rattle.ca_flat.specs.RuleOut.{RowsRuleOut}
use Rattle.ca_flat.specs.Waves.{FlatWaves, wave_of, IsFlatChip}
use Rattle.ca_flat.proofs.Detected.{some_good, detected_is_exposed_lem}
use Rattle.ca_flat.proofs.Filled.{fill, fill_definite, fill_above}
use Rattle.ca_sim.specs.Seen.{Seen, IsExact}
use Rattle.ca_cert.specs.Tested.{IsDetectingOutput}
use Rattle.ca_examiner.specs.code.PinRows.{IsNoneAllowed}
use Rattle.ca_examiner.specs.ChipExaminer.{AreNetworks}
use Rattle.ca_examiner.specs.code.Ends.{is_opposite_at, IsFirstOpposite}
use Rattle.ca_examiner.proofs.RowLemmas.{none_rules_out}
use Rattle.ca_examiner.proofs.StandingLemmas.{detects_at, detected_at}
use Rattle.ca_examiner.proofs.LeaveLemmas.{IsView}

-- where the rows rule a pair out, it shows nothing
rows_show_nothing : (chip : Chip) (rank : ℕ → ℕ) (defect : ChipDefect) (pair : List Trit) → IsFlatChip chip rank defect
    → (good : FlatWaves chip None pair) → RowsRuleOut chip defect pair good → IsShown chip defect pair → ⊥
rows_show_nothing chip rank defect pair is good rule shown =
    let u = defect.instance in
    let first : ℕ → Trit = λ pin. (wave_of good (net_of chip u pin)).first in
    let last : ℕ → Trit = λ pin. (wave_of good (net_of chip u pin)).last in
    detected_is_exposed_lem chip rank defect pair shown.output (fill chip u first) (fill chip u last) good is
    (is.chip_is.observed shown.output shown.observed) shown.detects (fill_definite chip u first) (fill_definite chip u last)
    (fill_above chip u first) (fill_above chip u last)
    (rule.changing (fill chip u first) (fill chip u last) (fill_above chip u first) (fill_above chip u last))
    (rule.steady (fill chip u first) (fill_above chip u first))

-- where no row is allowed, the pair doesn't show the defect
pub none_shows : (seen : Seen) (rank : ℕ → ℕ) (defect : ChipDefect) → IsChip seen.chip rank → IsDefectIn seen.chip defect
    → AreNetworks seen.chip → IsExact seen → (rows : List Row) → ListsExposingRows seen.chip defect rows
    → IsNoneAllowed seen defect.instance rows → IsShown seen.chip defect seen.pair → ⊥
none_shows seen rank defect is_chip in_chip networks exact rows lists none shown =
    some_good seen.chip rank defect flat seen.pair (λ good. rows_show_nothing seen.chip rank defect seen.pair flat good
    (none_rules_out seen rank is_chip defect in_chip.known (exact.good networks.good_is) good rows lists none) shown)
  where
    flat : IsFlatChip seen.chip rank defect
    flat = record { chip_is = is_chip; defect_is = in_chip; good_is = networks.good_is; faulty_is = networks.faulty_are defect in_chip }

-- the first output with opposite ends is the first that detects the defect
module _ (rank : ℕ → ℕ) (seen : Seen) (defect : ChipDefect) (view : IsView rank seen defect) where
  within : (k d : ℕ) → k < length seen.chip.outputs → get_or seen.chip.outputs k d < length seen.chip.nets
  within k d lt = view.is_flat.chip_is.observed (get_or seen.chip.outputs k d) (Contains-get_or seen.chip.outputs k d lt)

  pub detecting_is : (answer : Option ℕ) → IsFirstOpposite seen seen.chip.outputs answer
      → IsDetectingOutput seen.chip defect seen.pair answer
  detecting_is None none = λ shown.
      none shown.observed.0 shown.output shown.observed.1 shown.observed.1
      (subst (λ n. is_opposite_at seen n ≡ true) (sym shown.observed.2)
      (detected_at rank defect seen view.sees shown.output (view.is_flat.chip_is.observed shown.output shown.observed) shown.detects))
  detecting_is (Some place) is = record {
    here = subst (λ o. IsSomeAnd o (DetectsAt seen.chip defect seen.pair)) (sym (slice_get-get_or seen.chip.outputs place 0 is.0))
        (detects_at rank defect seen view.sees (get_or seen.chip.outputs place 0) (within place 0 is.0) is.1);
    none_before = λ k d lt detects.
        let below : k < place = (let l = length-take-le place seen.chip.outputs (let le : place ≤ length seen.chip.outputs = (let w = is.0 in omega arith) in le) in omega arith) in
        let long : k < length seen.chip.outputs = (let w = is.0 in omega arith) in
        is.2 k d below long
        (detected_at rank defect seen view.sees (get_or seen.chip.outputs k d) (within k d long)
        (subst (DetectsAt seen.chip defect seen.pair) (get_or-take place seen.chip.outputs k d below) detects));
  }
