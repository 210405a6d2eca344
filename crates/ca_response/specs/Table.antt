-- Tables of what a network of a cell gives, one entry for each choice of waves of the input pins.
use Rattle.std.specs.Prelude.{ℕ, ◌+◌, ◌*◌, ◌^◌, ◌≡◌, ◌≤◌, List, [], ◌∷◌, length, slice_index_or}
use Rattle.std.specs.List.{All}
use Rattle.ca_net.specs.declared.trit.Trit.{Trit}
use Rattle.ca_net.specs.declared.trit.Trit.TheVariants.{Zero, One, X}
use Rattle.ca_net.specs.declared.wave.Wave.{Wave}
use Rattle.ca_net.specs.Circuit.{Circuit}
use Rattle.ca_net.specs.Wave.{IsWave}
use Rattle.ca_cell.specs.declared.raw.RawCell.{RawCell}
use Rattle.ca_cell.specs.Raw.{is_input, role_count}
use Rattle.ca_response.specs.Gives.{Gives}

-- a value as a number below 3
abbrev pub digit_of : Trit → ℕ
digit_of Zero = 0
digit_of One = 1
digit_of X = 2

-- A pin has eleven waves: 0 and 1 that stay, and nine with an unknown middle, by their firsts and lasts.
abbrev pub code_of_values : Trit → Trit → Trit → ℕ
code_of_values Zero Zero Zero = 0
code_of_values One One One = 1
code_of_values first mid last = 2 + (3 * digit_of first + digit_of last)

-- the number of a wave among the eleven
abbrev pub code_of : Wave → ℕ
code_of wave = code_of_values wave.first wave.mid wave.last

-- the place of the entry for these waves of the input pins
abbrev pub place_of : List Wave → ℕ
place_of [] = 0
place_of (wave ∷ pins) = code_of wave + 11 * place_of pins

-- the entry at a place
abbrev pub entry_at : List (List Wave) → ℕ → List Wave
entry_at table place = slice_index_or table place []

-- The network has at most three input pins; for each choice of waves of them there is an entry, the waves
-- that the network gives for it.
pub record IsTableOf (raw : RawCell) (net : Circuit) (table : List (List Wave)) : Type 0 where
  pub few : role_count is_input raw.pins ≤ 3
  pub count : length table ≡ 11 ^ role_count is_input raw.pins
  pub each : (pins : List Wave) → length pins ≡ role_count is_input raw.pins → All IsWave pins
      → Gives raw net pins (entry_at table (place_of pins))
  pub waves : All (All IsWave) table
