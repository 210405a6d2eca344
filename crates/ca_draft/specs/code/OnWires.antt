-- Words of the code beside those of `specs/OnWires.antt`. Private functions and proofs cite them.
use Rattle.std.specs.Prelude.{ℕ, ◌+◌, ◌≡◌, ◌<◌, ◌^◌, ◌↔◌, ◌⊎◌, Bool, IsTrue, true, false, List}
use Rattle.std.specs.Prelude.{[], ◌∷◌, ◌++◌, map, length, drop, Option, Some, None, slice_get}
use Rattle.std.specs.Prelude.{slice_index, slice_index_or, if◌then◌else◌}
use Rattle.std.specs.List.{All, Contains, list_any, flat_map}
use mathlib.Core.Bool.{beq}
use Rattle.ca_cell.specs.declared.raw.RawCell.{RawCell}
use Rattle.ca_cell.specs.Library.{Named, raw_of}
use Rattle.ca_verilog.specs.declared.raw.RawBit.{RawBit}
use Rattle.ca_verilog.specs.declared.raw.RawSpan.{RawSpan}
use Rattle.ca_verilog.specs.declared.raw.RawUse.{RawUse}
use Rattle.ca_verilog.specs.declared.raw.RawInstance.{RawInstance}
use Rattle.ca_verilog.specs.declared.raw.RawNetlist.{RawNetlist}
use Rattle.ca_verilog.specs.IsNetlist.{IsJoinOf}
use Rattle.ca_linked.specs.declared.parts.Body.{Body}
use Rattle.ca_linked.specs.declared.parts.Body.TheVariants.{Gate, Scan}
use Rattle.ca_linked.specs.declared.parts.Part.{Part}
use Rattle.ca_linked.specs.declared.parts.PortBit.{PortBit}
use Rattle.ca_linked.specs.Linked.{LinkedChip, input_nets, output_nets, IsBody}
use Rattle.ca_wiring.specs.declared.scan_row.ScanRow.{ScanRow}
use Rattle.ca_wiring.specs.Wiring.{Meaning, meaning_of, input_names, output_names, wire_of, input_wires}
use Rattle.ca_wiring.specs.Wiring.{output_wires, open_count, WiredPart, HeaderBit, Wiring, wired_parts}
use Rattle.ca_wiring.specs.Wiring.{joins_of, wiring_of}
use Rattle.ca_wiring.specs.Nets.{IsNamed}
use Rattle.ca_wiring.specs.declared.joined.Join.{Join}
use Rattle.ca_wiring.specs.Joined.{AreEarliest}
use Rattle.ca_wiring.specs.Numbers.{WireMarks, NetNumbers, AreNumbered}
use Rattle.ca_wiring.specs.InstanceRules.{IsSound}
use Rattle.ca_wiring.specs.Linking.{HasMeaning, data_name}
use Rattle.ca_draft.specs.declared.draft.OnWires.{OnWires}
use Rattle.ca_draft.specs.OnWires.{has_constant, constant_wires}

-- the cells of a library
abbrev pub cells_of : List Named → List RawCell
cells_of library = map (λ named. raw_of named.entry) library

-- the cell is at this place of the library
abbrev pub IsCellAt : List Named → ℕ → RawCell → Type 0
IsCellAt library place raw = slice_get (cells_of library) place ≡ Some raw

-- what is on the pins of an instance, the input pins first
abbrev pub pins_of : Body → List ℕ
pins_of body = input_nets body ++ output_nets body

-- the wire of an output pin, where the next wire of its own has the number `own`
abbrev pub output_wire : ℕ → ℕ → Option RawBit → ℕ
output_wire bits own None = own
output_wire bits own (Some bit) = wire_of bits bit

-- the number of the wire of its own that comes next
abbrev pub next_own : ℕ → Option RawBit → ℕ
next_own own None = own + 1
next_own own (Some bit) = own

-- the body is that of an instance with this meaning, on its wires, where its wires of its own have the
-- numbers from `own` to `following`
pub record IsOnWires (library : List Named) (bits : ℕ) (meaning : Meaning) (uses : List RawUse)
    (own following : ℕ) (body : Body) : Type 0 where
  pub inputs : input_nets body ≡ input_wires bits uses (input_names meaning)
  pub outputs : output_nets body ≡ output_wires bits uses own (output_names meaning)
  pub counted : following ≡ own + open_count uses (output_names meaning)
  pub meant : HasMeaning (cells_of library) meaning body
  pub is_body : IsBody (cells_of library) body
  pub few : length (output_nets body) < 2 ^ 32

-- and the instance has its names
pub record IsPartOnWires (library : List Named) (bits : ℕ) (meaning : Meaning) (instance : RawInstance)
    (own following : ℕ) (part : Part) : Type 0 where
  pub name : part.name ≡ instance.name
  pub cell : part.cell ≡ instance.cell
  pub data_pin : part.«data» ≡ data_name meaning
  pub body : IsOnWires library bits meaning instance.pins own following part.body

-- the instance of a wiring that this one is
abbrev pub wired_of : List Named → List ScanRow → Part → WiredPart
wired_of library scan part = record {
  name = part.name;
  cell = part.cell;
  meaning = meaning_of library scan part.cell;
  inputs = input_nets part.body;
  outputs = output_nets part.body;
}

-- how many output pins of these instances are connected to nothing
abbrev pub open_counts : List Named → List ScanRow → List RawInstance → ℕ
open_counts library scan [] = 0
open_counts library scan (instance ∷ more) =
    open_count instance.pins (output_names (meaning_of library scan instance.cell))
    + open_counts library scan more

-- each instance keeps its rules
abbrev pub AreSoundAll : List Named → List ScanRow → List RawInstance → Type 0
AreSoundAll library scan instances = (u : ℕ) (instance : RawInstance) → slice_get instances u ≡ Some instance
    → IsSound (meaning_of library scan instance.cell) instance.pins

-- what each part of a draft keeps: its body is of the cell that the name of its cell means, and so is its
-- data pin
pub record IsKept (library : List Named) (scan : List ScanRow) (part : Part) : Type 0 where
  pub data_pin : part.«data» ≡ data_name (meaning_of library scan part.cell)
  pub meant : HasMeaning (cells_of library) (meaning_of library scan part.cell) part.body
  pub is_body : IsBody (cells_of library) part.body
  pub few : length (output_nets part.body) < 2 ^ 32

-- the first instances are those of the wiring, and those that are left begin with the wire `own`
pub record AreOnWires (library : List Named) (scan : List ScanRow) (bits : ℕ) (instances : List RawInstance)
    (first own : ℕ) (parts : List Part) : Type 0 where
  pub wired : wired_parts library scan bits (bits + 2) instances
      ≡ map (wired_of library scan) parts ++ wired_parts library scan bits own (drop first instances)
  pub counted : (bits + 2) + open_counts library scan instances
      ≡ own + open_counts library scan (drop first instances)
  pub count : length parts ≡ first
  pub kept : All (IsKept library scan) parts

-- the bit of a header that a port bit on its wire is
abbrev pub header_of : PortBit → HeaderBit
header_of port = record { name = port.name; is_input = port.is_input; wire = port.net }

-- the marks are at the earliest wires of those that are listed, and nowhere else
pub record AreMarks (earliest wires : List ℕ) (used : List Bool) : Type 0 where
  pub count : length used ≡ length earliest
  pub each : (w : ℕ) → w < length earliest
      → (slice_index_or used w false ≡ true)
      ↔ ((wire : ℕ) × Contains wires wire × (slice_index earliest wire ≡ w))

-- the number that is given for a wire
abbrev pub number_of : List ℕ → ℕ → ℕ
number_of numbers wire = slice_index numbers wire

-- the number of a wire, if there is one
abbrev pub numbered_option : List ℕ → Option ℕ → Option ℕ
numbered_option numbers None = None
numbered_option numbers (Some wire) = Some (number_of numbers wire)

-- the body, with the number of each wire in its place
abbrev pub numbered : List ℕ → Body → Body
numbered numbers (Gate cell inputs outputs) =
    Gate cell (map (number_of numbers) inputs) (map (number_of numbers) outputs)
numbered numbers (Scan pins) = Scan (record {
  d = number_of numbers pins.d;
  si = number_of numbers pins.si;
  se = number_of numbers pins.se;
  ck = number_of numbers pins.ck;
  hold = number_of numbers pins.hold;
  q = number_of numbers pins.q;
  qn = numbered_option numbers pins.qn;
  so = number_of numbers pins.so;
})

-- the instance with the number of each wire in its place
abbrev pub numbered_part : List ℕ → Part → Part
numbered_part numbers part = record {
  name = part.name;
  cell = part.cell;
  «data» = part.«data»;
  body = numbered numbers part.body;
}

-- the port bit with the number of its wire
abbrev pub numbered_port : List ℕ → PortBit → PortBit
numbered_port numbers port =
    record { name = port.name; is_input = port.is_input; net = number_of numbers port.net }

-- the number of a constant's wire, if the constant is named
abbrev pub constant_number : List ℕ → Bool → ℕ → Option ℕ
constant_number numbers is_named wire = if is_named then Some (number_of numbers wire) else None

-- the wires that nets are on: those of pins, of port bits, and of the constants that are named
abbrev pub touched_of : List Part → List PortBit → ℕ → Bool → Bool → List ℕ
touched_of parts ports bits has_zero has_one =
    flat_map (λ part. pins_of part.body) parts
    ++ (map (λ port. port.net) ports ++ (constant_wires bits has_zero ++ constant_wires (bits + 1) has_one))

-- the table has the nets that are on these wires, and the numbers of their nets
pub record IsNumbering (joins : List Join) (wires : ℕ) (touched : List ℕ) (table : NetNumbers) : Type 0 where
  pub marks : WireMarks
  pub are : AreEarliest joins wires marks.earliest
  pub used : AreMarks marks.earliest touched marks.used
  pub numbered : AreNumbered marks wires table

-- the wiring that has these instances, port bits and joins
abbrev pub wiring_on : List Named → List ScanRow → List Part → List PortBit → ℕ → List Join → Wiring
wiring_on library scan parts ports bits joins =
    record {
      bits = bits;
      joins = joins;
      parts = map (wired_of library scan) parts;
      header = map header_of ports;
    }

-- the wire is on a pin, or some span has the constant
abbrev pub IsNamedBy : List Part → List RawSpan → ℕ → Bool → Type 0
IsNamedBy parts spans wire value =
    Contains (flat_map (λ part. pins_of part.body) parts) wire ⊎ (list_any (has_constant value) spans ≡ true)

-- the wiring that has what was made
abbrev pub wiring_made : RawNetlist → List Named → List ScanRow → OnWires → Wiring
wiring_made raw library scan made =
    wiring_on library scan made.parts.items made.ports.items made.bits (joins_of made.bits raw.joins)

-- what was made is of the netlist: its instances, its port bits, the wires that nets are on, and whether each
-- constant is named
pub record IsNetlistOnWires (raw : RawNetlist) (library : List Named) (scan : List ScanRow)
    (made : OnWires) : Type 0 where
  pub is_wiring : wiring_made raw library scan made ≡ wiring_of raw library scan
  pub kept : All (IsKept library scan) made.parts.items
  pub joined : All (IsJoinOf made.bits) raw.joins
  pub zero_is : IsTrue made.touched.zero ↔ IsNamed (wiring_made raw library scan made) made.bits
  pub one_is : IsTrue made.touched.one ↔ IsNamed (wiring_made raw library scan made) (made.bits + 1)
  pub wires : made.touched.wires.items
      ≡ touched_of made.parts.items made.ports.items made.bits made.touched.zero made.touched.one
  pub within : All (λ wire. wire < made.wires) made.touched.wires.items
  pub constants : made.bits + 1 < made.wires
  pub few_parts : length made.parts.items < 2 ^ 32
  pub few_ports : length made.ports.items < 2 ^ 32

-- the chip with the number of each wire in its place
abbrev pub chip_on : List Named → List Part → List PortBit → ℕ → Bool → Bool → NetNumbers → LinkedChip
chip_on library parts ports bits has_zero has_one table = record {
  cells = cells_of library;
  nets = length table.nets;
  zero = constant_number table.numbers has_zero bits;
  one = constant_number table.numbers has_one (bits + 1);
  parts = map (numbered_part table.numbers) parts;
  ports = map (numbered_port table.numbers) ports;
  order = [];
}
