-- Defects of the instance in hand, found by their places in the list of its cell.
use Rattle.std.proofs.Common.{◌≡◌, ℕ, ◌+◌, ◌-◌, ◌<◌, ◌≤◌, List, [], true, sym, ◌∙◌, ap, subst, arith}
use Rattle.std.specs.Prelude.{slice_get, slice_index_or, None, Some}
use Rattle.std.specs.List.{All}
use Rattle.ca_net.specs.declared.trit.Trit.{Trit}
use Rattle.ca_net.specs.declared.wave.Wave.{Wave}
use Rattle.ca_net.specs.Circuit.{IsWellFormed}
use Rattle.ca_net.specs.State.{value_at}
use Rattle.ca_cell.specs.List.{defects_of}
use Rattle.ca_flat.specs.declared.chip_defect.ChipDefect.{ChipDefect}
use Rattle.ca_flat.specs.Chip.{Chip, IsChip, cell_at}
use Rattle.ca_flat.specs.Flat.{flat}
use Rattle.ca_flips.specs.Laws.{SweptAreFlipped, DetectedIsFilledIn, DetectedIsFlipped}
use Rattle.ca_sim.specs.Seen as sim
use Rattle.ca_view.specs.Linked.{IsPlaced, IsPlacedDefect, place_in}
use Rattle.ca_sweep.specs.declared.faulty.Faulty.{Faulty}
use Rattle.ca_sweep.specs.declared.hand.Hand.{Hand}
use Rattle.ca_sweep.specs.declared.rows.Rows.{Rows}
use Rattle.ca_sweep.specs.declared.seen.Seen.{Seen}
use Rattle.ca_sweep.specs.declared.seen.Seen.TheVariants.{Nowhere}
use Rattle.ca_sweep.specs.Seen.{Swept, Loaded}
use Rattle.ca_sweep.specs.Spans.{AreOfInstance, AreOfCell}
use Rattle.ca_sweep.specs.Found.{IsFound, IsUndetectedAt}
use Rattle.ca_sweep.specs.code.Asked.{IsAsked, AreNowhereAt}
use Rattle.ca_sweep.specs.code.Coded.{IsSeenCoded}
use Rattle.ca_sweep.specs.code.Hand.{IsFinder, IsTaken, IsTakenAt, IsCodedAt}
use Rattle.ca_sweep.specs.code.Rows.{AreLists, IsListOf, IsCodeIn}
use Rattle.ca_sweep.proofs.NextLemmas.{entry_has}
use Rattle.ca_sweep.proofs.CodedLemmas.{code_is_found, hand_coded}

-- what a finder has taken over
abbrev pub loaded_of : Swept → List Wave → Loaded
loaded_of swept waves = record { chip = swept.chip; places = swept.places; lasts = swept.lasts; waves = waves }

-- the code in the row of the instance in hand says that nothing is detected
pub taken_nowhere : SweptAreFlipped → DetectedIsFilledIn → DetectedIsFlipped
    → (chip : Chip) (places : List ℕ) (number_of : ℕ → ℕ) (swept : Swept) (faulty : Faulty) (rows : Rows) (waves : List Wave) (hand : Hand) (seen : sim.Seen)
    (u at code : ℕ) (answer : Seen) → IsFinder chip places (place_in places) number_of swept faulty rows waves hand → IsChip chip (place_in places)
    → IsAsked seen (loaded_of swept waves) → hand.is_full ≡ true → hand.instance ≡ u → IsCodeIn (slice_index_or rows.slots.items hand.slot None) at code
    → IsSeenCoded swept.chip (value_at swept.lasts) u code answer → answer ≡ Nowhere → AreNowhereAt seen.pair u at (loaded_of swept waves)
taken_nowhere swept_laws filled flipped chip places number_of swept faulty rows waves hand seen u at code answer is is_chip asked full in_hand code_is coded nowhere
    defect placed here at_is faulty_is =
    let goods = value_at swept.lasts in
    let slots = rows.slots.items in
    let hand_is : IsTaken swept.chip number_of goods waves slots hand = subst (λ c. IsTaken c number_of goods waves slots hand) (sym is.chip_is) (is.hand_is full) in
    let at_hand : IsTakenAt swept.chip number_of goods waves slots hand defect.instance = record { taken = hand_is; instance_is = in_hand ∙ sym here } in
    let lists : AreLists swept.chip (place_in places) number_of rows.lists.items =
    subst (λ c. AreLists c (place_in places) number_of rows.lists.items) (sym is.chip_is) is.rows_are.lists in
    let has_place : IsPlaced swept.chip (place_in places) defect.instance =
    subst (λ p. IsPlaced swept.chip (place_in p) defect.instance) is.places_are (record { known = placed.defect_is.known; placed = placed.placed }) in
    let list = slice_index_or rows.lists.items (number_of defect.instance) [] in
    let is_list : IsListOf (cell_at swept.chip defect.instance) list = lists.each defect.instance has_place in
    let in_list : slice_get list at ≡ Some defect.defect =
    ap (λ l. slice_get l at) is_list.is ∙ subst (λ w. slice_get (defects_of (cell_at swept.chip w)) at ≡ Some defect.defect) (sym here) at_is in
    let coded_at : IsCodedAt swept.chip waves defect code =
    hand_coded swept.chip number_of goods waves slots hand defect list at (Some code) at_hand is_list in_list code_is in
    let found : IsFound swept.chip defect seen.pair answer =
    code_is_found swept_laws filled flipped swept.chip (place_in places) defect seen.pair waves goods code answer (record {
      chip_is = subst (λ c. IsChip c (place_in places)) (sym is.chip_is) is_chip;
      defect_is = placed.defect_is;
      good_is = asked.good_is;
      faulty_is = faulty_is;
    }) asked.waves_are asked.lasts_are coded_at (subst (λ w. IsSeenCoded swept.chip goods w code answer) (sym here) coded) in
    subst (IsFound swept.chip defect seen.pair) nowhere found

-- so no defect at a place of a span is detected where it is so at that place of the cell's list
pub taken_undetected : (loaded : Loaded) (defects : List ChipDefect) (pair : List Trit) (start end u next : ℕ) → start ≤ next → next < end
    → AreOfInstance defects start end u → AreOfCell (cell_at loaded.chip u) defects start end
    → All (IsPlacedDefect loaded.chip (place_in loaded.places)) defects → All (λ (d : ChipDefect). IsWellFormed (flat loaded.chip (Some d))) defects
    → AreNowhereAt pair u (next - start) loaded → IsUndetectedAt loaded.chip defects pair next
taken_undetected loaded defects pair start end u next after before span whole placed faulty nowhere defect at =
    let there : next ≡ start + (next - start) = omega arith in
    nowhere defect (entry_has (IsPlacedDefect loaded.chip (place_in loaded.places)) defects next defect at placed) (span.each next defect after before at)
    (whole (next - start) defect (omega arith) (subst (λ n. slice_get defects n ≡ Some defect) there at))
    (entry_has (λ (d : ChipDefect). IsWellFormed (flat loaded.chip (Some d))) defects next defect at faulty)
