-- The bit of a loaded lane says whether its pair is suspect, and that of another lane isn't set.
use Rattle.std.proofs.Common.{◌≡◌, ℕ, zero, suc, ◌+◌, ◌<◌, ◌↔◌, Bool, true, false, ◌&&◌, List, [], ◌∷◌}
use Rattle.std.proofs.Common.{get_or, length, inl, inr, ◌-◌, ◌==◌, if◌then◌else◌, refl, sym, ap, ap₂, ◌∙◌}
use Rattle.std.proofs.Common.{arith}
use Rattle.std.specs.List.{list_any}
use Rattle.std.proofs.lemmas.Bool.{cases_lt}
use Rattle.std.proofs.Math.Seq.{take-length}
use Rattle.ca_net.specs.declared.trit.Trit.{Trit}
use Rattle.ca_cell.specs.declared.row.Row.{Row}
use Rattle.ca_flat.specs.declared.chip_defect.ChipDefect.{ChipDefect}
use Rattle.ca_flat.specs.Chip.{Chip, instance_at, inputs_at, outputs_at, net_of, count_of, IsChip}
use Rattle.ca_flat.specs.Rows.{ListsExposingRows}
use Rattle.ca_flat.specs.TwoFrame.{IsSuspect}
use Rattle.ca_flat.proofs.TwoFrames.{unsuspected_is_undetected_lem, plain_is_never_opposite_lem}
use Rattle.ca_flat.proofs.PlainAbove.{waves_are_below_plain_lem, suspect_is_allowed_lem}
use Rattle.ca_lanes.specs.Choice.{Choice}
use Rattle.ca_lanes.specs.Loaded.{trits_for, IsLoaded}
use Rattle.ca_lanes.specs.Screened.{SaysSuspect, ClearBitMeansNoDetection, PlainInLaneIsNeverOpposite}
use Rattle.ca_lanes.specs.Screened.{WavesAreBelowLane, SetBitIsAllowed}
use Rattle.ca_lanes.specs.code.Allowed.{allowed_by, is_row_allowed}
use Rattle.ca_lanes.specs.code.Evaluated.{pin_choices, masks_for}
use Rattle.ca_lanes.proofs.AllowedLemmas.{in_zeros, in_ones}
use Rattle.ca_lanes.proofs.PinLemmas.{pin_trits, instance_pins, instance_masks}
use Rattle.ca_lanes.proofs.SuspectLemmas.{suspect_from_any, any_from_suspect}

-- nothing is allowed in a lane that isn't loaded
pub none_allowed : (pins : List Choice) (n : ℕ) → get_or (allowed_by false pins) n false ≡ false
none_allowed [] zero = refl
none_allowed [] (suc n) = refl
none_allowed (pin ∷ pins) n = elim (cases_lt n (length (allowed_by false pins))) [
  | inl within ↦ in_zeros pin (allowed_by false pins) n within ∙ ap (λ b. pin.zero && b) (none_allowed pins n) ∙ and_false pin.zero
  | inr past ↦ in_ones pin (allowed_by false pins) n past ∙ ap (λ b. pin.one && b) (none_allowed pins (n - length (allowed_by false pins))) ∙ and_false pin.one
]
  where
    and_false : (b : Bool) → (b && false) ≡ false
    and_false true = refl
    and_false false = refl

pub none_suspect : (firsts lasts : List Choice) (rows : List Row) → list_any (is_row_allowed (allowed_by false firsts) (allowed_by false lasts)) rows ≡ false
none_suspect firsts lasts [] = refl
none_suspect firsts lasts (row ∷ rows) = rw (none_here (row.first == row.last), none_suspect firsts lasts rows) refl
  where
    none_here : (b : Bool) → (if b then get_or (allowed_by false firsts) row.first false
        else get_or (allowed_by false firsts) row.first false && get_or (allowed_by false lasts) row.last false) ≡ false
    none_here true = none_allowed firsts row.first
    none_here false = rw (none_allowed firsts row.first) refl

-- the bit of a loaded lane
pub suspect_in_lane : (chip : Chip) (rank : ℕ → ℕ) (pair : List Trit) (defect : ChipDefect) (firsts lasts : List Choice) (rows : List Row) → IsChip chip rank
    → defect.instance < count_of chip → length (instance_at chip defect.instance).pins ≡ inputs_at chip defect.instance + outputs_at chip defect.instance
    → IsLoaded chip pair firsts lasts → ListsExposingRows chip defect rows
    → (list_any (is_row_allowed (masks_for true firsts (inputs_at chip defect.instance) (instance_at chip defect.instance).pins)
    (masks_for true lasts (inputs_at chip defect.instance) (instance_at chip defect.instance).pins)) rows ≡ true)
    ↔ IsSuspect chip defect (trits_for firsts) (trits_for lasts)
suspect_in_lane chip rank pair defect firsts lasts rows is known count loaded lists =
    let u = defect.instance in
    let first_each = λ (pin : ℕ) (fits : pin < inputs_at chip u). loaded.first_is (net_of chip u pin) (is.on_nets u pin known (omega (arith, fits))) in
    let last_each = λ (pin : ℕ) (fits : pin < inputs_at chip u). loaded.last_is (net_of chip u pin) (is.on_nets u pin known (omega (arith, fits))) in
    let first_pins = instance_pins chip u count firsts first_each in
    let last_pins = instance_pins chip u count lasts last_each in
    let same = ap₂ (λ a b. list_any (is_row_allowed a b) rows) (instance_masks chip u count firsts first_each) (instance_masks chip u count lasts last_each) in (
      λ h. suspect_from_any chip defect (trits_for firsts) (trits_for lasts) (pin_trits firsts _) (pin_trits lasts _) rows first_pins last_pins lists (same ∙ h),
      λ h. sym same ∙ any_from_suspect chip defect (trits_for firsts) (trits_for lasts) (pin_trits firsts _) (pin_trits lasts _) rows first_pins last_pins lists h,
    )

-- the same for the pins that are handed in
pub says_suspect : (pins : List ℕ) (rows : List Row) (firsts lasts : List Choice) (loaded bit : Bool) → loaded ≡ true
    → bit ≡ list_any (is_row_allowed (masks_for loaded firsts (length pins) pins) (masks_for loaded lasts (length pins) pins)) rows
    → SaysSuspect pins rows firsts lasts bit
says_suspect pins rows firsts lasts loaded bit on is chip rank pair defect is_chip of are_loaded =
    let u = defect.instance in
    let whole = take-length pins ∙ of.pins_are in
    let same : bit ≡ list_any (is_row_allowed (masks_for true firsts (inputs_at chip u) (instance_at chip u).pins) (masks_for true lasts (inputs_at chip u) (instance_at chip u).pins)) rows =
    is ∙ ap₂ (λ l ps. list_any (is_row_allowed (allowed_by l (pin_choices firsts ps)) (allowed_by l (pin_choices lasts ps))) rows) on whole in
    let both = suspect_in_lane chip rank pair defect firsts lasts rows is_chip of.known of.count are_loaded of.lists in
    (λ h. both.0 (sym same ∙ h), λ h. same ∙ both.1 h)

pub clear_bit_means_no_detection_lem : ClearBitMeansNoDetection
clear_bit_means_no_detection_lem chip rank pair defect pins rows firsts lasts bit net flat of loaded says on_net clear =
    unsuspected_is_undetected_lem chip rank defect pair (trits_for firsts) (trits_for lasts) net flat loaded.two_frame on_net
    (λ suspect. clear ((says chip rank pair defect flat.chip_is of loaded).1 suspect))

pub plain_in_lane_is_never_opposite_lem : PlainInLaneIsNeverOpposite
plain_in_lane_is_never_opposite_lem chip rank pair firsts lasts good net is formed loaded on_net =
    plain_is_never_opposite_lem chip rank pair (trits_for firsts) (trits_for lasts) good net is formed loaded.two_frame on_net

pub waves_are_below_lane_lem : WavesAreBelowLane
waves_are_below_lane_lem chip rank pair firsts lasts good net is formed loaded on_net =
    waves_are_below_plain_lem chip rank pair (trits_for firsts) (trits_for lasts) good net is formed loaded.two_frame on_net

pub set_bit_is_allowed_lem : SetBitIsAllowed
set_bit_is_allowed_lem chip rank pair defect pins rows firsts lasts bit good flat of loaded says set =
    suspect_is_allowed_lem chip rank defect pair (trits_for firsts) (trits_for lasts) good flat.chip_is flat.good_is flat.defect_is
    loaded.two_frame ((says chip rank pair defect flat.chip_is of loaded).0 set)

-- the bit by other words
pub bit_from : (bit : Bool) (firsts lasts same_firsts same_lasts : List Bool) (rows same_rows : List Row)
    → bit ≡ list_any (is_row_allowed firsts lasts) rows → firsts ≡ same_firsts → lasts ≡ same_lasts → rows ≡ same_rows
    → bit ≡ list_any (is_row_allowed same_firsts same_lasts) same_rows
bit_from bit firsts lasts same_firsts same_lasts rows same_rows is p q r =
    is ∙ ap₂ (λ a b. list_any (is_row_allowed a b) rows) p q ∙ ap (list_any (is_row_allowed same_firsts same_lasts)) r
