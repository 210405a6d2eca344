-- Each defect of a chip may be screened for.
use Rattle.std.proofs.Common.{◌≡◌, ℕ, ◌+◌, ◌^◌, ◌<◌, ◌≤◌, List, get_or, length, take, refl, sym, ap, ◌∙◌}
use Rattle.std.proofs.Common.{subst, arith}
use Rattle.std.proofs.Math.Decide.{dec_le}
use Rattle.std.proofs.lemmas.List.{get_or-take, length-take}
use Rattle.std.proofs.lemmas.List.Elements.{All-from_get_or, Contains-get_or}
use Rattle.ca_cell.specs.declared.raw.RawCell.{RawCell}
use Rattle.ca_cell.specs.declared.rule.CellRule.TheVariants.{TooManyInputs, NoOutput}
use Rattle.ca_cell.specs.declared.rule.TheConstants.{MOST_INPUTS}
use Rattle.ca_cell.specs.Raw.{is_input, role_count}
use Rattle.ca_cell.specs.Rules.{KeepsAllBut}
use Rattle.ca_cell.specs.declared.row.Row.{Row}
use Rattle.ca_flat.specs.Chip.{Chip, instance_at, cell_at, inputs_at, outputs_at, net_of}
use Rattle.ca_lanes.specs.Screened.{IsRowIn, DefectsAreScreenable}

-- a cell that may be in a chip has few input pins
few_inputs : (raw : RawCell) → KeepsAllBut NoOutput raw → role_count is_input raw.pins ≤ MOST_INPUTS
few_inputs raw keeps = elim (dec_le (role_count is_input raw.pins) MOST_INPUTS) [
  | yes few ↦ few
  | no many ↦ absurd (keeps (TooManyInputs (role_count is_input raw.pins)) (λ same. let clash : ⊥ = cc in clash) (refl, omega arith))
]

module _ (chip : Chip) (u : ℕ) (pins : List ℕ) (whole : length (instance_at chip u).pins ≡ inputs_at chip u + outputs_at chip u)
    (are : pins ≡ take (inputs_at chip u) (instance_at chip u).pins) where
  pin_count : length pins ≡ inputs_at chip u
  pin_count = ap length are ∙ length-take (inputs_at chip u) (instance_at chip u).pins ∙ omega (arith, whole)

  on_pin : (pin : ℕ) → pin < inputs_at chip u → get_or pins pin 0 ≡ net_of chip u pin
  on_pin pin known = ap (λ list. get_or list pin 0) are ∙ get_or-take (inputs_at chip u) (instance_at chip u).pins pin 0 known

pub defects_are_screenable_lem : DefectsAreScreenable
defects_are_screenable_lem chip rank defect pins rows is of =
    let u = defect.instance in
    let count = pin_count chip u pins of.count of.pins_are in
    let no_row : Row = record { first = 0; last = 0 } in
    record {
      few = subst (λ n. n ≤ MOST_INPUTS) (sym count) (few_inputs (cell_at chip u) (is.cells u of.known).keeps);
      within = All-from_get_or (λ net. net < length chip.nets) pins 0 (λ pin fits.
          let known : pin < inputs_at chip u = subst (λ n. pin < n) count fits in
          subst (λ net. net < length chip.nets) (sym (on_pin chip u pins of.count of.pins_are pin known)) (is.on_nets u pin of.known (omega (arith, known))));
      rows_within = All-from_get_or (IsRowIn (2 ^ length pins)) rows no_row (λ place fits.
          let row = get_or rows place no_row in
          let exposes = (of.lists row).0 (Contains-get_or rows place no_row fits) in
          record {
            first = subst (λ n. row.first < 2 ^ n) (sym count) exposes.first_within;
            last = subst (λ n. row.last < 2 ^ n) (sym count) exposes.last_within;
          });
    }
