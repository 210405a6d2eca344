-- Tables of what a static cell ends with, one entry for each last vector of its input pins.
use Rattle.std.specs.Prelude.{ℕ, ◌^◌, ◌≡◌, ◌<◌, List, [], length, slice_index_or, Option, None, Some}
use Rattle.ca_net.specs.declared.trit.Trit.{Trit}
use Rattle.ca_net.specs.declared.wave.Wave.{Wave}
use Rattle.ca_cell.specs.declared.raw.RawCell.{RawCell}
use Rattle.ca_cell.specs.Raw.{is_input, is_output, role_count}
use Rattle.ca_cell.specs.Row.{vector_of}
use Rattle.ca_flat.specs.Waves.{unknown_wave}
use Rattle.ca_flips.specs.Static.{EndsByLast, IsStatic}

-- the waves of the output pins in the entry of a number
abbrev pub entry_at : List (List Wave) → ℕ → List Wave
entry_at table number = slice_index_or table number []

-- the last value of an output pin there
abbrev pub last_at : List (List Wave) → ℕ → ℕ → Trit
last_at table number output = (slice_index_or (entry_at table number) output unknown_wave).last

-- the cell is static, and the entry of each number has the last values with which the cell ends by the vector
-- of the number alone
pub record IsLastTable (raw : RawCell) (table : List (List Wave)) : Type 0 where
  pub is_static : IsStatic raw
  pub count : length table ≡ 2 ^ role_count is_input raw.pins
  pub rows : (number : ℕ) → number < 2 ^ role_count is_input raw.pins
      → length (entry_at table number) ≡ role_count is_output raw.pins
  pub each : (number output : ℕ) → number < 2 ^ role_count is_input raw.pins
      → output < role_count is_output raw.pins
      → EndsByLast raw (vector_of (role_count is_input raw.pins) number) output (last_at table number output)

-- there is a table, the cell's, exactly where the cell is static
abbrev pub IsTableWhereStatic : RawCell → Option (List (List Wave)) → Type 0
IsTableWhereStatic raw None = ¬ (IsStatic raw)
IsTableWhereStatic raw (Some table) = IsLastTable raw table
