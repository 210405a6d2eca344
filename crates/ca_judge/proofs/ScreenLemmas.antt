-- Where no exposing row is allowed, the pair doesn't show the defect.
use Rattle.std.proofs.Common.{◌<◌, ℕ, List, Option, None, Some, sym, ◌∙◌, ap, subst}
use Rattle.std.proofs.lemmas.Option.{slice_get-get_or}
use Rattle.ca_net.specs.declared.trit.Trit.{Trit}
use Rattle.ca_cell.specs.declared.row.Row.{Row}
use Rattle.ca_flat.specs.declared.chip_defect.ChipDefect.{ChipDefect}
use Rattle.ca_flat.specs.Chip.{Chip, IsDefectIn, net_of}
use Rattle.ca_flat.specs.Pair.{IsShown}
use Rattle.ca_flat.specs.Rows.{ListsExposingRows}
use Rattle.ca_flat.specs.RuleOut.{RowsRuleOut}
use Rattle.ca_flat.specs.Waves.{FlatWaves, wave_of, unknown_wave, IsFlatChip}
use Rattle.ca_flat.proofs.Detected.{some_good, detected_is_exposed_lem}
use Rattle.ca_flat.proofs.Filled.{fill, fill_definite, fill_above}
use Rattle.ca_view.specs.NetLists.{NetLists, input_nets}
use Rattle.ca_guide.specs.code.Seen.{AreGoodWaves}
use Rattle.ca_guide.specs.PinRows.{IsNoneAllowed, IsSomeAllowed}
use Rattle.ca_guide.specs.Guide.{Guided}
use Rattle.ca_guide.proofs.GuideLemmas.{none_rules_out, some_is_allowed}
use Rattle.ca_sim.specs.Seen.{Seen, IsExact}
use Rattle.ca_judge.specs.code.ChipJudge.{IsChipJudge}

-- where the rows rule a pair out, it shows nothing
rows_show_nothing : (chip : Chip) (rank : ℕ → ℕ) (defect : ChipDefect) (pair : List Trit) → IsFlatChip chip rank defect
    → (good : FlatWaves chip None pair) → RowsRuleOut chip defect pair good → IsShown chip defect pair → ⊥
rows_show_nothing chip rank defect pair is good rule shown =
    let u = defect.instance in
    let first : ℕ → Trit = λ pin. (wave_of good (net_of chip u pin)).first in
    let last : ℕ → Trit = λ pin. (wave_of good (net_of chip u pin)).last in
    detected_is_exposed_lem chip rank defect pair shown.output (fill chip u first) (fill chip u last) good is
    (is.chip_is.observed shown.output shown.observed) shown.detects (fill_definite chip u first) (fill_definite chip u last)
    (fill_above chip u first) (fill_above chip u last)
    (rule.changing (fill chip u first) (fill chip u last) (fill_above chip u first) (fill_above chip u last))
    (rule.steady (fill chip u first) (fill_above chip u first))

module _ (seen : Seen) (chip : Chip) (lists : NetLists) (rows_chip : Chip) (guide_is : Guided) (outputs : List ℕ)
    (aim : Option ChipDefect) (is : IsChipJudge seen.chip seen.aim chip lists rows_chip guide_is outputs aim) (exact : IsExact seen)
    (defect : ChipDefect) (in_chip : IsDefectIn seen.chip defect) where
  flat_chip : IsFlatChip seen.chip is.rank defect
  flat_chip = record {
    chip_is = is.chip_is;
    defect_is = in_chip;
    good_is = is.judged.good_is;
    faulty_is = is.judged.faulty_are defect in_chip;
  }

  good_waves : (good : FlatWaves seen.chip None seen.pair) → AreGoodWaves seen.chip seen.pair seen.good good
  good_waves good net within = slice_get-get_or seen.good net unknown_wave (subst (λ n. net < n) (sym exact.whole.good) within)
      ∙ ap Some ((exact.good is.judged.good_is).exact good net within)

  pub none_shows : (rows : List Row) → ListsExposingRows rows_chip defect rows
      → IsNoneAllowed seen.good (input_nets lists defect.instance) rows → IsShown seen.chip defect seen.pair → ⊥
  none_shows rows are none shown = some_good seen.chip is.rank defect flat_chip seen.pair (λ good.
      rows_show_nothing seen.chip is.rank defect seen.pair flat_chip good
      (none_rules_out seen.chip defect lists seen.good seen.pair is.nets good (good_waves good) in_chip.known rows
      (subst (λ c. ListsExposingRows c defect rows) is.rows_are are) none) shown)

  -- where an exposing row is allowed, the rows don't rule the pair out
  pub some_allows : (rows : List Row) → ListsExposingRows rows_chip defect rows
      → IsSomeAllowed seen.good (input_nets lists defect.instance) rows
      → (good : FlatWaves seen.chip None seen.pair) → RowsRuleOut seen.chip defect seen.pair good → ⊥
  some_allows rows are some good rule =
      some_is_allowed seen.chip defect lists seen.good seen.pair is.nets good (good_waves good) in_chip.known rows
      (subst (λ c. ListsExposingRows c defect rows) is.rows_are are) some rule
