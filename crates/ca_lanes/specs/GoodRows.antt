-- The good values of a cell's rows, as lists.
use Rattle.std.specs.Prelude.{ℕ, ◌+◌, ◌*◌, ◌^◌, ◌≡◌, ◌≢◌, ◌<◌, ◌↔◌, List, [], length, replicate}
use Rattle.ca_net.specs.declared.trit.Trit.{Trit}
use Rattle.ca_net.specs.declared.trit.Trit.TheVariants.{X}
use Rattle.ca_net.specs.State.{value_at}
use Rattle.ca_cell.specs.declared.raw.RawCell.{RawCell}
use Rattle.ca_cell.specs.Raw.{is_input, is_output, role_count, circuit_of}
use Rattle.ca_cell.specs.Row.{vector_of}
use Rattle.ca_cell.specs.Exposes.{CellEndsAt}
use Rattle.ca_flat.specs.Chip.{Chip, cell_at, circuit_at, inputs_at, outputs_at, count_of, IsChip}

-- the good value of a row at an output: by the first vector, then the last one, then the output
abbrev pub good_at : List Trit → ℕ → ℕ → ℕ → ℕ → ℕ → Trit
good_at values count outputs first last output = value_at values ((first * count + last) * outputs + output)

-- there is a value for each row and output
pub record AreRows (values : List Trit) (count outputs : ℕ) : Type 0 where
  pub whole : length values ≡ (count * count) * outputs

-- the value is v where every run for the two vectors ends with v, else X
abbrev pub IsEndValue : (Trit → Type 0) → Trit → Type 0
IsEndValue ends value = (v : Trit) → v ≢ X → (value ≡ v) ↔ ends v

-- the values are those that the good cell ends with, for each row and output
pub record AreGoodRows (raw : RawCell) (values : List Trit) : Type 0 where
  pub whole : AreRows values (2 ^ role_count is_input raw.pins) (role_count is_output raw.pins)
  pub each : (first last output : ℕ) → first < 2 ^ role_count is_input raw.pins
      → last < 2 ^ role_count is_input raw.pins → output < role_count is_output raw.pins
      → IsEndValue (CellEndsAt (circuit_of raw) (vector_of (role_count is_input raw.pins) first)
      (vector_of (role_count is_input raw.pins) last) (2 + role_count is_input raw.pins + output))
      (good_at values (2 ^ role_count is_input raw.pins) (role_count is_output raw.pins) first last output)

-- the good values of an instance's cell without devices are all unknown
abbrev pub BareRowsAreUnknown : Type 0
BareRowsAreUnknown =
    (chip : Chip) (rank : ℕ → ℕ) (u : ℕ) → IsChip chip rank → u < count_of chip
    → (circuit_at chip u).devices ≡ []
    → AreGoodRows (cell_at chip u)
    (replicate ((2 ^ inputs_at chip u * 2 ^ inputs_at chip u) * outputs_at chip u) X)
