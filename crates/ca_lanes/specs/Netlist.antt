-- What the planes read of a chip: its nets, its instances with the good rows of their cells, and their order.
use Rattle.std.specs.Prelude.{ℕ, ◌+◌, ◌^◌, ◌≡◌, ◌<◌, ◌≤◌, Bool, List, get_or, length, map}
use Rattle.std.specs.Prelude.{Some, slice_get, slice_index}
use Rattle.std.specs.List.{All}
use Rattle.ca_net.specs.declared.trit.Trit.{Trit}
use Rattle.ca_flat.specs.Chip.{Chip, Drives, IsChip, instance_at, cell_at, count_of}
use Rattle.ca_flat.specs.Chip.{inputs_at, outputs_at, net_of}
use Rattle.ca_flat.specs.Chip as flat
use Rattle.ca_lanes.specs.declared.constants.Constant.{Constant}
use Rattle.ca_lanes.specs.declared.good_rows.GoodRows.{GoodRows}
use Rattle.ca_lanes.specs.declared.netlist.Instance.{Instance}
use Rattle.ca_lanes.specs.declared.netlist.Netlist.{Netlist}
use Rattle.ca_lanes.specs.GoodRows.{AreGoodRows}

-- these are the rows of a cell with `inputs` inputs and `outputs` outputs
pub record HasRows (inputs outputs : ℕ) (values : List Trit) (rows : GoodRows) : Type 0 where
  pub inputs_are : rows.inputs ≡ inputs
  pub outputs_are : rows.outputs ≡ outputs
  pub values_are : rows.values.items ≡ values

-- the net of an output pin: the input pins come first
abbrev pub output_of : ℕ → List ℕ → ℕ → ℕ
output_of inputs pins output = get_or pins (inputs + output) 0

-- there is a net for each pin, and no net is on two output pins
pub record ArePinsOf (nets inputs outputs : ℕ) (pins : List ℕ) : Type 0 where
  pub count : length pins ≡ inputs + outputs
  pub within : (pin : ℕ) → pin < inputs + outputs → get_or pins pin 0 < nets
  pub apart : (output other : ℕ) → output < outputs → other < outputs
      → output_of inputs pins output ≡ output_of inputs pins other → output ≡ other

-- the instance's cell has rows, and the instance a net for each of its pins
pub record IsInstanceReadable (nets : ℕ) (goods : List GoodRows) (instance : Instance) : Type 0 where
  pub known : instance.cell < length goods
  pub pins : (rows : GoodRows) → slice_get goods instance.cell ≡ Some rows
      → ArePinsOf nets rows.inputs rows.outputs instance.pins.items

-- all numbers of the netlist are within their lists
pub record IsReadable (nets : ℕ) (goods : List GoodRows) (netlist : Netlist) : Type 0 where
  pub inputs : All (λ net. net < nets) netlist.inputs.items
  pub constants : All (λ constant. constant.net < nets) netlist.constants.items
  pub instances : All (IsInstanceReadable nets goods) netlist.instances.items
  pub order : All (λ u. u < length netlist.instances.items) netlist.order.items
  pub few : length netlist.inputs.items + length netlist.inputs.items < 2 ^ 64

-- the instance is one of the first `count` of the order
pub record IsAmong (order : List ℕ) (count u : ℕ) : Type 0 where
  pub place : ℕ
  pub before : place < count
  pub here : get_or order place 0 ≡ u

-- the order has each instance once, after those that drive its input pins
pub record IsOrder (chip : Chip) (order : List ℕ) : Type 0 where
  pub known : (place : ℕ) → place < length order → get_or order place 0 < count_of chip
  pub once : (place other : ℕ) → place < length order → other < length order
      → get_or order place 0 ≡ get_or order other 0 → place ≡ other
  pub all : (u : ℕ) → u < count_of chip → IsAmong order (length order) u
  pub drivers : (place pin : ℕ) → place < length order → pin < inputs_at chip (get_or order place 0)
      → (p : Drives chip (net_of chip (get_or order place 0) pin)) → IsAmong order place p.instance

-- the rows are those of the cell of the chip's instance
pub record AreRowsOf (chip : Chip) (u : ℕ) (rows : GoodRows) : Type 0 where
  pub inputs : rows.inputs ≡ inputs_at chip u
  pub outputs : rows.outputs ≡ outputs_at chip u
  pub values : AreGoodRows (cell_at chip u) rows.values.items

-- the instances are those of the chip, in their order
pub record AreInstancesOf (chip : Chip) (instances : List Instance) (goods : List GoodRows) : Type 0 where
  pub count : length instances ≡ count_of chip
  pub pins : (u : ℕ) (instance : Instance) → slice_get instances u ≡ Some instance
      → instance.pins.items ≡ (instance_at chip u).pins
  pub rows : (u : ℕ) (instance : Instance) (rows : GoodRows) → slice_get instances u ≡ Some instance
      → slice_get goods instance.cell ≡ Some rows → AreRowsOf chip u rows

-- the constants as those of a chip
abbrev pub constants_of : List Constant → List flat.Constant
constants_of constants = map (λ constant. record { net = constant.net; value = constant.value }) constants

-- the netlist is the chip's
pub record IsNetlistOf (chip : Chip) (netlist : Netlist) (goods : List GoodRows) : Type 0 where
  pub inputs_are : netlist.inputs.items ≡ chip.inputs
  pub constants_are : constants_of netlist.constants.items ≡ chip.constants
  pub instances_are : AreInstancesOf chip netlist.instances.items goods
  pub order_is : IsOrder chip netlist.order.items

-- each instance of the chip has a net for each pin, and the nets of inputs and constants are the chip's
pub record IsOnNets (chip : Chip) : Type 0 where
  pub pins : (u : ℕ) → u < count_of chip
      → length (instance_at chip u).pins ≡ inputs_at chip u + outputs_at chip u
  pub inputs : (input : ℕ) → input < length chip.inputs → slice_index chip.inputs input < length chip.nets
  pub constants : (k : ℕ) (constant : flat.Constant) → slice_get chip.constants k ≡ Some constant
      → constant.net < length chip.nets
  pub few : length chip.inputs + length chip.inputs < 2 ^ 64

-- the netlist of such a chip is readable, if each instance's cell has rows
abbrev pub NetlistsAreReadable : Type 0
NetlistsAreReadable =
    (chip : Chip) (rank : ℕ → ℕ) (netlist : Netlist) (goods : List GoodRows) → IsChip chip rank
    → IsOnNets chip → IsNetlistOf chip netlist goods
    → All (λ instance. instance.cell < length goods) netlist.instances.items
    → IsReadable (length chip.nets) goods netlist

-- the pair has a bit for each of `count` inputs, from one on
pub record HasBits (bit count : ℕ) (pair : List Bool) : Type 0 where
  pub enough : bit + count ≤ length pair
