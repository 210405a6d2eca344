-- Words of the code beside those of `specs/Pins.antt`. Private functions and proofs cite them.
use Rattle.std.specs.Prelude.{ℕ, ◌≡◌, ◌<◌, List, [], length, map, Vec, slice_index_or, slice_get, IsSomeAnd}
use Rattle.std.specs.Prelude.{Option, option_to_list}
use Rattle.std.specs.Global.{Global}
use Rattle.std.specs.List.{All}
use Rattle.ca_linked.specs.Linked as linked
use Rattle.ca_flat.specs.Chip.{Chip, inputs_at, outputs_at, count_of}
use Rattle.ca_view.specs.Core.{stored_nets}
use Rattle.ca_view.specs.NetLists.{ArePinNets}
use Rattle.ca_view.specs.Pins.{Pins}

-- the nets of an instance's input pins
abbrev pub inputs_of : Pins → ℕ → List ℕ
inputs_of pins u = slice_index_or pins.inputs u []

-- those of its output pins
abbrev pub outputs_of : Pins → ℕ → List ℕ
outputs_of pins u = slice_index_or pins.outputs u []

-- the lists that are in vectors
abbrev pub items_of : List (Vec ℕ Global) → List (List ℕ)
items_of lists = map (λ list. list.items) lists

-- each net of each list is below this number
abbrev pub AreBelow : ℕ → List (List ℕ) → Type 0
AreBelow count lists = All (All (λ net. net < count)) lists

-- the pins are those of the chip's instances
pub record ArePinsOf (chip : Chip) (pins : Pins) : Type 0 where
  pub nets : pins.nets ≡ length chip.nets
  pub count : pins.count ≡ count_of chip
  pub inputs : (u : ℕ) → u < count_of chip → ArePinNets chip u 0 (inputs_at chip u) (inputs_of pins u)
  pub outputs : (u : ℕ) → u < count_of chip
      → ArePinNets chip u (inputs_at chip u) (outputs_at chip u) (outputs_of pins u)

-- so they are, and each instance has a list of both kinds
pub record AreCorePins (chip : Chip) (pins : Pins) : Type 0 where
  pub are : ArePinsOf chip pins
  pub input_rows : length pins.inputs ≡ pins.count
  pub output_rows : length pins.outputs ≡ pins.count

-- the first `count` instances have the nets of their pins in the list: a number of pins after others
pub record HaveNets (chip : Chip) (before pins : ℕ → ℕ) (count : ℕ) (rows : List (List ℕ)) : Type 0 where
  pub room : length rows ≡ count
  pub each : (u : ℕ) → u < count → ArePinNets chip u (before u) (pins u) (slice_index_or rows u [])

-- those of their input pins
abbrev pub AreInputNets : Chip → ℕ → List (List ℕ) → Type 0
AreInputNets chip count rows = HaveNets chip (λ u. 0) (inputs_at chip) count rows

-- those of their output pins
abbrev pub AreOutputNets : Chip → ℕ → List (List ℕ) → Type 0
AreOutputNets chip count rows = HaveNets chip (inputs_at chip) (outputs_at chip) count rows

-- the inverted output of the instance is on this net, if it is on one
abbrev pub IsInverted : linked.LinkedChip → ℕ → Option ℕ → Type 0
IsInverted chip u net =
    IsSomeAnd (slice_get chip.parts u) (λ part. stored_nets part.body ≡ option_to_list net)
