-- The values of a cell's output pins under a pair of vectors.
use Rattle.std.specs.Prelude.{ℕ, ◌+◌, ◌≡◌, ◌≢◌, ◌↔◌, List, map, length, Option, Some, slice_get, option_map}
use Rattle.std.specs.Prelude.{if◌then◌else◌, IsSomeAnd}
use Rattle.std.specs.Str.{bytes_eq}
use Rattle.ca_net.specs.declared.trit.Trit.{Trit}
use Rattle.ca_net.specs.declared.trit.Trit.TheVariants.{X}
use Rattle.ca_net.specs.Circuit.{Circuit}
use Rattle.ca_cell.specs.declared.raw.RawCell.{RawCell}
use Rattle.ca_cell.specs.Raw.{is_input, role_count, output_names, circuit_of}
use Rattle.ca_cell.specs.Rules.{KeepsRules}
use Rattle.ca_cell.specs.List.{faulty_of}
use Rattle.ca_cell.specs.Exposes.{CellEndsAt}
use Rattle.ca_on_cell.specs.declared.pin_values.PinValue.{PinValue}
pub use Rattle.ca_request.specs.Vectors.{dash, letters_of, trit_of, trits_of}
pub use Rattle.ca_request.specs.Asked.{defect_called}

-- the vector has one letter per input pin
abbrev pub Fits : RawCell → List ℕ → Type 0
Fits raw word = length (letters_of word) ≡ role_count is_input raw.pins

-- the network that a word asks for: a dash for that of the cell, and the name of a defect for that of the
-- cell with the defect
abbrev pub asked_network : RawCell → List ℕ → Option Circuit
asked_network raw word =
    if bytes_eq word dash then Some (circuit_of raw)
    else option_map (faulty_of raw) (defect_called raw word)

-- the values are of the output pins in their order, and each is 0 or 1 exactly where every run of the network
-- for the two vectors ends with it; the output pins are the nodes after power, ground and the input pins
pub record AreEnds (raw : RawCell) (first last : List Trit) (values : List PinValue) (net : Circuit)
    : Type 0 where
  pub of_pins : map (λ value. value.pin) values ≡ output_names raw.pins
  pub ends : (place : ℕ) (value : PinValue) (end : Trit) → slice_get values place ≡ Some value
      → ((end ≢ X) × (value.value ≡ end))
      ↔ CellEndsAt net first last (2 + role_count is_input raw.pins + place) end

-- the values are those of a subcircuit's output pins: it keeps the rules of a used cell, each vector has one
-- letter per input pin, the word for the defect asks for a network, and the values are what every run of it
-- ends with
pub record AreValues (first last defect : List ℕ) (values : List PinValue) (raw : RawCell) : Type 0 where
  pub kept : KeepsRules raw
  pub first_fits : Fits raw first
  pub last_fits : Fits raw last
  pub ends : IsSomeAnd (asked_network raw defect) (AreEnds raw (trits_of first) (trits_of last) values)
