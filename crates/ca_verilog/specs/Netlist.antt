-- The netlist of what was read: declared bits are numbered over all names, in declaration order.
use Rattle.std.specs.Prelude.{ℕ, ◌+◌, ◌-◌, nat_lt, if◌then◌else◌, List, [], ◌∷◌, map}
use Rattle.std.specs.Prelude.{flat_map, slice_get, Option, Some, None, option_map, unwrap_or, Result, Ok}
use Rattle.std.specs.Prelude.{Err}
use Rattle.ca_verilog.specs.declared.bus.Bus.{Bus}
use Rattle.ca_verilog.specs.declared.fault.VerilogFault.{VerilogFault}
use Rattle.ca_verilog.specs.declared.fault.VerilogFault.TheVariants.{TooManyNets}
use Rattle.ca_verilog.specs.declared.instance.Operand.{Operand}
use Rattle.ca_verilog.specs.declared.instance.Operand.TheVariants as operand
use Rattle.ca_verilog.specs.declared.instance.Join.{Join}
use Rattle.ca_verilog.specs.declared.instance.Use.{Use}
use Rattle.ca_verilog.specs.declared.instance.Instance.{Instance}
use Rattle.ca_verilog.specs.declared.netlist.TheConstants.{MOST_BITS}
use Rattle.ca_verilog.specs.declared.raw.RawBus.{RawBus}
use Rattle.ca_verilog.specs.declared.raw.RawBit.{RawBit}
use Rattle.ca_verilog.specs.declared.raw.RawBit.TheVariants as bit
use Rattle.ca_verilog.specs.declared.raw.RawJoin.{RawJoin}
use Rattle.ca_verilog.specs.declared.raw.RawSpan.{RawSpan}
use Rattle.ca_verilog.specs.declared.raw.RawUse.{RawUse}
use Rattle.ca_verilog.specs.declared.raw.RawInstance.{RawInstance}
use Rattle.ca_verilog.specs.declared.raw.RawNetlist.{RawNetlist}
use Rattle.ca_verilog.specs.declared.table.Range.{Range}
use Rattle.ca_verilog.specs.Bus.{bus_of, range_at}
use Rattle.ca_verilog.specs.Joins.{pairs_of}
use Rattle.ca_verilog.specs.Reading.{Reading, width_in, width_of}

-- how many bits there are with those of these names
abbrev pub bits_with : ℕ → List Bus → ℕ
bits_with bits [] = bits
bits_with bits (bus ∷ more) = bits_with (bits + width_in bus.range) more

-- the number of the first bit of each name, after `bits` bits
abbrev pub first_bits : ℕ → List Bus → List ℕ
first_bits bits [] = []
first_bits bits (bus ∷ more) = bits ∷ first_bits (bits + width_in bus.range) more

-- the place of an index, counted from the left one
abbrev pub offset_in : Option Range → ℕ → ℕ
offset_in None index = 0
offset_in (Some range) index = (range.left - index) + (index - range.left)

-- the first bit of the name at a place
abbrev pub first_at : ℕ → List ℕ → ℕ
first_at place firsts = unwrap_or (slice_get firsts place) 0

-- the first bit of an operand, from its left end
abbrev pub first_bit : List ℕ → List Bus → Operand → RawBit
first_bit firsts buses (operand.Whole place) = bit.Bit (first_at place firsts)
first_bit firsts buses (operand.Bit place index) =
    bit.Bit (first_at place firsts + offset_in (range_at place buses) index)
first_bit firsts buses (operand.Constant value) = bit.Constant value

-- the bits that an `assign` joins, from the left ends on
abbrev pub raw_span : List ℕ → List Bus → Join → RawSpan
raw_span firsts buses join = record {
  left = first_bit firsts buses join.left;
  right = first_bit firsts buses join.right;
  count = width_of buses join.left;
}

-- the same as pairs
abbrev pub raw_joins : List ℕ → List Bus → Join → List RawJoin
raw_joins firsts buses join = pairs_of (raw_span firsts buses join)

-- the numbers of a range
abbrev pub raw_range : Range → ℕ × ℕ
raw_range range = (range.left, range.right)

abbrev pub raw_bus : Bus → RawBus
raw_bus bus = record { name = bus.name; direction = bus.direction; range = option_map raw_range bus.range }

abbrev pub raw_use : List ℕ → List Bus → Use → RawUse
raw_use firsts buses used = record {
  pin = used.pin;
  bit = option_map (first_bit firsts buses) used.operand;
}

abbrev pub raw_instance : List ℕ → List Bus → Instance → RawInstance
raw_instance firsts buses instance = record {
  name = instance.name;
  cell = instance.cell;
  pins = map (raw_use firsts buses) instance.uses;
}

-- the place of a name of the header
abbrev pub port_place : List Bus → List ℕ → ℕ
port_place buses name = unwrap_or (bus_of name buses) 0

-- the netlist, where the first bits are these
abbrev pub netlist_with : List ℕ → Reading → RawNetlist
netlist_with firsts it = record {
  buses = map raw_bus it.buses;
  ports = map (port_place it.buses) it.ports;
  joins = flat_map (raw_joins firsts it.buses) it.joins;
  instances = map (raw_instance firsts it.buses) it.instances;
}

-- the netlist of what was read, if it has at most 131,072 bits
unfoldable pub limited : Reading → Result RawNetlist VerilogFault
limited it = if nat_lt MOST_BITS (bits_with 0 it.buses) then Err (TooManyNets (bits_with 0 it.buses))
    else Ok (netlist_with (first_bits 0 it.buses) it)
