-- A defect whose code is known is found by it.
use Rattle.std.proofs.Common.{◌≡◌, ◌≢◌, ℕ, zero, suc, ◌<◌, ◌≤◌, List, sym, ◌∙◌, ap, subst, arith}
use Rattle.std.specs.Prelude.{slice_get, slice_index_or, Option, None, Some, IfSome}
use Rattle.ca_net.specs.declared.trit.Trit.{Trit}
use Rattle.ca_net.specs.declared.trit.Trit.TheVariants.{X}
use Rattle.ca_net.specs.declared.wave.Wave.{Wave}
use Rattle.ca_cell.specs.declared.raw.RawCell.{RawCell}
use Rattle.ca_cell.specs.declared.defect.Defect.{Defect}
use Rattle.ca_flat.specs.declared.chip_defect.ChipDefect.{ChipDefect}
use Rattle.ca_flat.specs.Chip.{Chip, cell_at, outputs_at}
use Rattle.ca_flat.specs.Waves.{IsFlatChip}
use Rattle.ca_flips.specs.Flips.{AreGoodLasts, AreLastsOf}
use Rattle.ca_flips.specs.Laws.{SweptAreFlipped, DetectedIsFilledIn, DetectedIsFlipped}
use Rattle.ca_response.specs.Gives.{wave_at}
use Rattle.ca_sweep.specs.declared.hand.Hand.{Hand}
use Rattle.ca_sweep.specs.declared.row.Row.{Row}
use Rattle.ca_sweep.specs.declared.seen.Seen.{Seen}
use Rattle.ca_sweep.specs.Found.{IsFound}
use Rattle.ca_sweep.specs.code.Faulty.{AreWavesAt}
use Rattle.ca_sweep.specs.code.Rows.{code_of_lasts, IsCoded, IsListOf, IsRowOf, IsCodeIn, IsKnownCode}
use Rattle.ca_sweep.specs.code.Coded.{IsSeenCoded}
use Rattle.ca_sweep.specs.code.Hand.{IsTakenAt, IsCodedAt}
use Rattle.ca_sweep.proofs.FoundLemmas.{found_by, faulty_lasts, good_lasts}
use Rattle.ca_sim.specs.Seen.{AreNetWaves}
use Rattle.ca_sweep.proofs.RowLemmas.{flips_of_code, first_of_code, second_of_code}

-- the code in a slot is that of what the cell gives with the defect
coded_in : (raw : RawCell) (pins : List Wave) (slot : Option Row) (list : List Defect) (defect : Defect) (place code : ℕ) → IsListOf raw list
    → slice_get list place ≡ Some defect → IsRowOf raw pins slot → IsCodeIn slot place code → IsCoded raw defect pins code
coded_in raw pins None list defect place code is_list at row is = absurd is
coded_in raw pins (Some row) list defect place code is_list at codes is =
    subst (IsCoded raw defect pins) (sym is.is) (codes place defect is.within (ap (λ l. slice_get l place) (sym is_list.is) ∙ at))

-- the last values are definite where the code says so
known_of_code : (outputs : List Wave) (code count : ℕ) → count ≤ 2 → code ≡ code_of_lasts outputs → IsKnownCode code count
    → (output : ℕ) → output < count → (wave_at outputs output).last ≢ X
known_of_code outputs code count few is known zero within = subst (λ v. v ≢ X) (first_of_code outputs code is) (known.first within)
known_of_code outputs code count few is known (suc zero) within = subst (λ v. v ≢ X) (second_of_code outputs code is) (known.second within)
known_of_code outputs code count few is known (suc (suc more)) within = absurd (omega arith)

pub coded_found : SweptAreFlipped → DetectedIsFilledIn → DetectedIsFlipped
    → (chip : Chip) (rank : ℕ → ℕ) (defect : ChipDefect) (pair : List Trit) (pins : List Wave) (goods : ℕ → Trit) (code : ℕ) (answer : Seen)
    → IsFlatChip chip rank defect → AreGoodLasts chip pair defect.instance pins goods → IsCoded (cell_at chip defect.instance) defect.defect pins code
    → IsSeenCoded chip goods defect.instance code answer → IsFound chip defect pair answer
coded_found swept filled flipped chip rank defect pair pins goods code answer is lasts coded seen =
    subst (IsFound chip defect pair) (sym seen.is)
    (found_by swept filled flipped chip rank defect pair pins goods coded.outputs seen.flips is lasts (faulty_lasts chip defect pins coded.outputs coded.gives)
    (flips_of_code chip goods defect.instance seen.ends coded.outputs code seen.flips seen.few seen.goods_are coded.code_is seen.flips_are) seen.known seen.seen
    (λ on output within. known_of_code coded.outputs code (outputs_at chip defect.instance) seen.few coded.code_is (seen.known_is on) output within) seen.seen_is)

-- so it is for the waves of all nets
pub code_is_found : SweptAreFlipped → DetectedIsFilledIn → DetectedIsFlipped
    → (chip : Chip) (rank : ℕ → ℕ) (defect : ChipDefect) (pair : List Trit) (waves : List Wave) (goods : ℕ → Trit) (code : ℕ) (answer : Seen)
    → IsFlatChip chip rank defect → AreNetWaves chip None pair waves → AreLastsOf chip pair goods → IsCodedAt chip waves defect code
    → IsSeenCoded chip goods defect.instance code answer → IsFound chip defect pair answer
code_is_found swept filled flipped chip rank defect pair waves goods code answer is net_waves lasts at seen =
    coded_found swept filled flipped chip rank defect pair at.pins goods code answer is
    (good_lasts chip rank pair defect.instance waves at.pins goods is.chip_is is.defect_is.known net_waves at.pins_are lasts) at.coded seen

-- the code in the slot is that of the defect
pub hand_coded : (chip : Chip) (number_of : ℕ → ℕ) (goods : ℕ → Trit) (waves : List Wave) (slots : List (Option Row)) (hand : Hand) (defect : ChipDefect)
    (list : List Defect) (place : ℕ) (result : Option ℕ) → IsTakenAt chip number_of goods waves slots hand defect.instance
    → IsListOf (cell_at chip defect.instance) list → slice_get list place ≡ Some defect.defect
    → IfSome result (IsCodeIn (slice_index_or slots hand.slot None) place) → IfSome result (IsCodedAt chip waves defect)
hand_coded chip number_of goods waves slots hand defect list place None is is_list at code_is = tt
hand_coded chip number_of goods waves slots hand defect list place (Some code) is is_list at code_is = record {
  pins = is.taken.pins;
  pins_are = subst (λ u. AreWavesAt chip waves u is.taken.pins) is.instance_is is.taken.pins_are;
  coded = coded_in (cell_at chip defect.instance) is.taken.pins (slice_index_or slots hand.slot None) list defect.defect place code is_list at
      (subst (λ u. IsRowOf (cell_at chip u) is.taken.pins (slice_index_or slots hand.slot None)) is.instance_is is.taken.row) code_is;
}
