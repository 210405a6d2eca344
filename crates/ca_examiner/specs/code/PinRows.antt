-- Rows against the good waves at the input pins of an instance.
use Rattle.std.specs.Prelude.{ℕ, ◌≡◌, ◌<◌, ◌⊎◌, List}
use Rattle.std.specs.List.{All, Any}
use Rattle.ca_net.specs.declared.trit.Trit.{Trit}
use Rattle.ca_net.specs.declared.wave.Wave.{Wave}
use Rattle.ca_net.specs.Trit.{IsBelow}
use Rattle.ca_net.specs.State.{value_at}
use Rattle.ca_cell.specs.declared.row.Row.{Row}
use Rattle.ca_cell.specs.Row.{vector_of}
use Rattle.ca_response.specs.Gives.{wave_at}
use Rattle.ca_flat.specs.Chip.{inputs_at, net_of}
use Rattle.ca_sim.specs.Seen.{Seen}
use Rattle.ca_examiner.specs.declared.rows.End.{End}
use Rattle.ca_examiner.specs.declared.rows.End.TheVariants.{First, Last}

-- the value of a wave for the first vector, or for the last
abbrev pub end_of : End → Wave → Trit
end_of First wave = wave.first
end_of Last wave = wave.last

-- the value of a pin's net
abbrev pub pin_value : Seen → End → ℕ → ℕ → Trit
pin_value seen end u pin = end_of end (wave_at seen.good (net_of seen.chip u pin))

-- the vector of the number is at or above the values of the first pins
abbrev pub IsOverPins : Seen → End → ℕ → ℕ → ℕ → Type 0
IsOverPins seen end u number count = (pin : ℕ) → pin < count
    → IsBelow (pin_value seen end u pin) (value_at (vector_of (inputs_at seen.chip u) number) pin)

-- at or above those of all pins
abbrev pub IsOver : Seen → End → ℕ → ℕ → Type 0
IsOver seen end u number = IsOverPins seen end u number (inputs_at seen.chip u)

-- the row's vectors are, or it has one vector, which is at or above the first values
abbrev pub IsAllowed : Seen → ℕ → Row → Type 0
IsAllowed seen u row = IsOver seen First u row.first × ((row.first ≡ row.last) ⊎ IsOver seen Last u row.last)

-- some row is allowed
abbrev pub IsSomeAllowed : Seen → ℕ → List Row → Type 0
IsSomeAllowed seen u rows = Any (IsAllowed seen u) rows

-- no row is
abbrev pub IsNoneAllowed : Seen → ℕ → List Row → Type 0
IsNoneAllowed seen u rows = All (λ row. IsAllowed seen u row → ⊥) rows
