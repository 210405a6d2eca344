-- The netlist of a tree.
use Rattle.std.specs.Prelude.{ℕ, ◌+◌, if◌then◌else◌, List, [], ◌∷◌, map, flat_map}
use Rattle.std.specs.Prelude.{option_map, unwrap_or}
use Rattle.std.specs.Str.{bytes_eq}
use Rattle.ca_lex.specs.Words.{upper_case}
use Rattle.ca_names.specs.Names.{place_of}
use Rattle.ca_verilog.specs.declared.raw.RawBus.{RawBus}
use Rattle.ca_verilog.specs.declared.raw.RawBit.{RawBit}
use Rattle.ca_verilog.specs.declared.raw.RawBit.TheVariants as bit
use Rattle.ca_verilog.specs.declared.raw.RawJoin.{RawJoin}
use Rattle.ca_verilog.specs.declared.raw.RawUse.{RawUse}
use Rattle.ca_verilog.specs.declared.raw.RawInstance.{RawInstance}
use Rattle.ca_verilog.specs.declared.raw.RawNetlist.{RawNetlist}
use Rattle.ca_verilog.specs.IsNetlist.{range_width}
use Rattle.ca_verilog.specs.Joins.{pairs_of}
use Rattle.ca_verilog.specs.Netlist.{offset_in, raw_range}
use Rattle.ca_syntax.specs.Tree.{Operand, Connection, Assign, Instance, Module, Declared, declarations}
use Rattle.ca_syntax.specs.Tree.{assigns, instances, ports_of}
use Rattle.ca_syntax.specs.Names.{names_in, direction_of, range_of}
use Rattle.ca_syntax.specs.Rules.{width_of}

-- a declared name with its direction and its range
abbrev pub bus_in : List Declared → List ℕ → RawBus
bus_in declared name = record {
  name = name;
  direction = direction_of name declared;
  range = option_map raw_range (range_of name declared);
}

-- the declared names, in declaration order
abbrev pub buses_of : List Declared → List RawBus
buses_of declared = map (bus_in declared) (names_in declared)

-- how many bits are before those of a name
abbrev pub bits_before : List ℕ → List RawBus → ℕ
bits_before name [] = 0
bits_before name (bus ∷ more) =
    if bytes_eq name bus.name then 0 else range_width bus.range + bits_before name more

-- the bit of an operand; of a vector as a whole, the left one
abbrev pub bit_of : List Declared → Operand → RawBit
bit_of declared (Operand.whole name) = bit.Bit (bits_before name (buses_of declared))
bit_of declared (Operand.bit name index) =
    bit.Bit (bits_before name (buses_of declared) + offset_in (range_of name declared) index)
bit_of declared (Operand.constant value) = bit.Constant value

-- the pairs of bits that an `assign` joins, from the left ends on
abbrev pub joins_of : List Declared → Assign → List RawJoin
joins_of declared it = pairs_of (record {
  left = bit_of declared it.left;
  right = bit_of declared it.right;
  count = width_of declared it.left;
})

-- a pin, folded, with its bit
abbrev pub use_of : List Declared → Connection → RawUse
use_of declared it = record { pin = upper_case it.pin; bit = option_map (bit_of declared) it.value }

-- an instance, with its cell folded
abbrev pub instance_of : List Declared → Instance → RawInstance
instance_of declared it = record {
  name = it.name;
  cell = upper_case it.cell;
  pins = map (use_of declared) it.connections;
}

-- the place of a name among the declared ones
abbrev pub port_of : List Declared → List ℕ → ℕ
port_of declared name = unwrap_or (place_of name (names_in declared)) 0

-- the netlist of a tree
abbrev pub tree_netlist : Module → RawNetlist
tree_netlist tree = record {
  buses = buses_of (declarations tree.items);
  ports = map (port_of (declarations tree.items)) (ports_of tree);
  joins = flat_map (joins_of (declarations tree.items)) (assigns tree.items);
  instances = map (instance_of (declarations tree.items)) (instances tree.items);
}
