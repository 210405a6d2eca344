-- Rows against the waves of a cell's input pins, as lists.
use Rattle.std.specs.Prelude.{ℕ, ◌≡◌, ◌<◌, ◌⊎◌, List, length, slice_index_or}
use Rattle.std.specs.List.{All, Any}
use Rattle.ca_net.specs.declared.trit.Trit.{Trit}
use Rattle.ca_net.specs.declared.wave.Wave.{Wave}
use Rattle.ca_net.specs.Trit.{IsBelow}
use Rattle.ca_net.specs.State.{value_at}
use Rattle.ca_cell.specs.declared.row.Row.{Row}
use Rattle.ca_cell.specs.Row.{vector_of}
use Rattle.ca_guide.specs.declared.rows.End.{End}
use Rattle.ca_guide.specs.declared.rows.End.TheVariants.{First, Last}
use Rattle.ca_flat.specs.Waves.{unknown_wave}

-- the value of a wave for the first vector, or for the last
abbrev pub end_of : End → Wave → Trit
end_of First wave = wave.first
end_of Last wave = wave.last

-- the value of a pin's net
abbrev pub pin_value : List Wave → End → List ℕ → ℕ → Trit
pin_value good end pins pin = end_of end (slice_index_or good (slice_index_or pins pin 0) unknown_wave)

-- the vector of the number is at or above the values of the first pins
abbrev pub IsOverPins : List Wave → End → List ℕ → ℕ → ℕ → Type 0
IsOverPins good end pins number count =
    (pin : ℕ) → pin < count
    → IsBelow (pin_value good end pins pin) (value_at (vector_of (length pins) number) pin)

-- at or above those of all pins
abbrev pub IsOver : List Wave → End → List ℕ → ℕ → Type 0
IsOver good end pins number = IsOverPins good end pins number (length pins)

-- the row's vectors are, or it has one vector, which is at or above the first values
abbrev pub IsAllowed : List Wave → List ℕ → Row → Type 0
IsAllowed good pins row =
    IsOver good First pins row.first × ((row.first ≡ row.last) ⊎ IsOver good Last pins row.last)

-- some row is allowed
abbrev pub IsSomeAllowed : List Wave → List ℕ → List Row → Type 0
IsSomeAllowed good pins rows = Any (IsAllowed good pins) rows

-- no row is
abbrev pub IsNoneAllowed : List Wave → List ℕ → List Row → Type 0
IsNoneAllowed good pins rows = All (λ row. IsAllowed good pins row → ⊥) rows
