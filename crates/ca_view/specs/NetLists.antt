-- Lists of nets of a linked chip: links onward and back, pins, chip inputs.
use Rattle.std.specs.Prelude.{ℕ, ◌+◌, ◌≡◌, ◌<◌, ◌≤◌, ◌↔◌, Bool, true, false, List, [], length, slice_index_or}
use Rattle.std.specs.List.{All, Contains}
use Rattle.ca_cell.specs.declared.rule.TheConstants.{MOST_INPUTS}
use Rattle.ca_flat.specs.Chip.{Chip, inputs_at, outputs_at, net_of, count_of}
use Rattle.ca_flat.specs.Chain.{Feeds}

-- the nets to which a net is linked; past the list none
abbrev pub linked_from : List (List ℕ) → ℕ → List ℕ
linked_from links net = slice_index_or links net []

-- each link leads to a place of the list
abbrev pub AreWithin : List (List ℕ) → Type 0
AreWithin links = All (All (λ net. net < length links)) links

-- For each net the nets that it feeds, those that feed it, and whether it is observed; for each instance the
-- nets of its input pins and of its output pins; and the net of each chip input.
pub record NetLists : Type 0 where
  pub onward : List (List ℕ)
  pub back : List (List ℕ)
  pub observed : List Bool
  pub input_pins : List (List ℕ)
  pub output_pins : List (List ℕ)
  pub inputs : List ℕ

-- the nets of the instance's input pins
abbrev pub input_nets : NetLists → ℕ → List ℕ
input_nets lists u = slice_index_or lists.input_pins u []

-- the nets of its output pins
abbrev pub output_nets : NetLists → ℕ → List ℕ
output_nets lists u = slice_index_or lists.output_pins u []

-- these are the nets of `count` of the instance's pins, which follow `before` others
pub record ArePinNets (chip : Chip) (u before count : ℕ) (nets : List ℕ) : Type 0 where
  pub counted : length nets ≡ count
  pub each : (pin : ℕ) → pin < count → slice_index_or nets pin 0 ≡ net_of chip u (before + pin)

-- the lists are those of the chip
pub record AreNetsOf (chip : Chip) (lists : NetLists) : Type 0 where
  pub onward_count : length lists.onward ≡ length chip.nets
  pub back_count : length lists.back ≡ length chip.nets
  pub input_count : length lists.input_pins ≡ count_of chip
  pub output_count : length lists.output_pins ≡ count_of chip
  pub onward : (before net : ℕ) → Contains (linked_from lists.onward before) net ↔ Feeds chip before net
  pub back : (net before : ℕ) → Contains (linked_from lists.back net) before ↔ Feeds chip before net
  pub observed : (net : ℕ) → (slice_index_or lists.observed net false ≡ true) ↔ Contains chip.outputs net
  pub input_pins : (u : ℕ) → u < count_of chip → ArePinNets chip u 0 (inputs_at chip u) (input_nets lists u)
  pub output_pins : (u : ℕ) → u < count_of chip
      → ArePinNets chip u (inputs_at chip u) (outputs_at chip u) (output_nets lists u)
  pub inputs : lists.inputs ≡ chip.inputs
  pub on_nets : (u pin : ℕ) → u < count_of chip → pin < inputs_at chip u + outputs_at chip u
      → net_of chip u pin < length chip.nets
  pub few_pins : (u : ℕ) → u < count_of chip → inputs_at chip u ≤ MOST_INPUTS
