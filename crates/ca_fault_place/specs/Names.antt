-- What a fault's numbers are called: instances, cells, pins, devices, and the bits of nets.
use Rattle.std.specs.Prelude.{ℕ, zero, suc, ◌+◌, ◌-◌, List, [], ◌∷◌, Option, Some, None, slice_get}
use Rattle.std.specs.Prelude.{codes, nat_lt, if◌then◌else◌, Bool, true, false}
use Rattle.ca_cell.specs.declared.raw.RawDevice.{RawDevice}
use Rattle.ca_cell.specs.declared.raw.RawCell.{RawCell}
use Rattle.ca_cell.specs.Raw.{is_input}
use Rattle.ca_verilog.specs.declared.raw.RawBus.{RawBus}
use Rattle.ca_verilog.specs.declared.raw.RawInstance.{RawInstance}
use Rattle.ca_verilog.specs.IsNetlist.{range_width, bit_count}
use Rattle.ca_wiring.specs.Wiring.{bit_name, names_with}

-- the name, and none where there is nothing
abbrev pub name_of_instance : Option RawInstance → List ℕ
name_of_instance None = []
name_of_instance (Some instance) = instance.name

-- the name of the cell of an instance, and none where there is nothing
abbrev pub name_of_cell : Option RawInstance → List ℕ
name_of_cell None = []
name_of_cell (Some instance) = instance.cell

-- the name of the instance at a place
abbrev pub instance_name : List RawInstance → ℕ → List ℕ
instance_name instances u = name_of_instance (slice_get instances u)

-- the name of its cell
abbrev pub cell_name : List RawInstance → ℕ → List ℕ
cell_name instances u = name_of_cell (slice_get instances u)

-- a name that may be missing
abbrev pub name_or_none : Option (List ℕ) → List ℕ
name_or_none None = []
name_or_none (Some name) = name

-- the name of an input pin's node: power is 0, ground is 1, and the input pins follow in their order
abbrev pub input_pin_name : RawCell → ℕ → List ℕ
input_pin_name raw node = name_or_none (slice_get (names_with is_input raw.pins) (node - 2))

-- the name of a device, and none where there is nothing
abbrev pub name_of_device : Option RawDevice → List ℕ
name_of_device None = []
name_of_device (Some device) = device.name

-- the name of the device at a place
abbrev pub device_name : RawCell → ℕ → List ℕ
device_name raw device = name_of_device (slice_get raw.devices device)

-- how a constant is written
abbrev pub constant_name : Bool → List ℕ
constant_name false = codes "1'b0"
constant_name true = codes "1'b1"

-- the constant whose wire is the first after those of declared bits, and the one after it
abbrev pub constant_after : ℕ → List ℕ
constant_after zero = constant_name false
constant_after (suc more) = constant_name true

-- the name of a wire: that of a declared bit, as `z` or `a[3]`, or a constant
abbrev pub wire_name : List RawBus → ℕ → List ℕ
wire_name [] wire = constant_after wire
wire_name (bus ∷ more) wire =
    if nat_lt wire (range_width bus.range) then bit_name bus bus.range wire
    else wire_name more (wire - range_width bus.range)

-- the text of a net that is known by the wire: its name makes the text; a net of an open output pin alone,
-- which is after the declared bits and the constants, has no name and no text
abbrev pub wire_text : List RawBus → ℕ → (List ℕ → List ℕ) → List ℕ
wire_text buses wire text_of =
    if nat_lt wire (bit_count buses + 2) then text_of (wire_name buses wire) else []
