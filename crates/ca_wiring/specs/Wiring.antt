-- The wires of a gate netlist: which wire each pin of an instance is on, which wires `assign`s join, and the
-- ports.
use Rattle.std.specs.Prelude.{ℕ, zero, suc, ◌+◌, ◌-◌, Bool, true, false, List, [], ◌∷◌, ◌++◌, map, Option}
use Rattle.std.specs.Prelude.{Some, None, is_none, count_by, take, nat_le, slice_get, codes, if◌then◌else◌}
use Rattle.std.specs.List.{flat_map}
use Rattle.std.specs.Fmt.{decimal}
use Rattle.std.specs.Str.{bytes_eq}
use Rattle.ca_lex.specs.Words.{upper_case}
use Rattle.ca_cell.specs.declared.library.Entry.{Entry}
use Rattle.ca_cell.specs.declared.library.Entry.TheVariants.{Sound, Refused}
use Rattle.ca_cell.specs.declared.raw.Role.{Role}
use Rattle.ca_cell.specs.declared.raw.RawPin.{RawPin}
use Rattle.ca_cell.specs.declared.raw.RawCell.{RawCell}
use Rattle.ca_cell.specs.declared.rule.CellRule.{CellRule}
use Rattle.ca_cell.specs.Library.{Named, entry_of}
use Rattle.ca_cell.specs.Raw.{is_input, is_output}
use Rattle.ca_verilog.specs.declared.table.Direction.{Direction}
use Rattle.ca_verilog.specs.declared.table.Direction.TheVariants.{Input, Output, Inner}
use Rattle.ca_verilog.specs.declared.raw.RawBit.{RawBit}
use Rattle.ca_verilog.specs.declared.raw.RawBit.TheVariants.{Bit, Constant}
use Rattle.ca_verilog.specs.declared.raw.RawBus.{RawBus}
use Rattle.ca_verilog.specs.declared.raw.RawJoin.{RawJoin}
use Rattle.ca_verilog.specs.declared.raw.RawUse.{RawUse}
use Rattle.ca_verilog.specs.declared.raw.RawInstance.{RawInstance}
use Rattle.ca_verilog.specs.declared.raw.RawNetlist.{RawNetlist}
use Rattle.ca_verilog.specs.IsNetlist.{range_width, bit_count}
use Rattle.ca_wiring.specs.declared.scan_row.ScanRow.{ScanRow}
use Rattle.ca_wiring.specs.declared.joined.Join.{Join}

-- what the cell's name of an instance means: a scan cell, a cell of the library, a subcircuit that breaks a
-- rule, or nothing
pub data Meaning : Type 0 where
  Unknown : Meaning
  Broken : CellRule → Meaning
  Library : RawCell → Meaning
  ScanCell : ScanRow → Meaning

-- the first row of the scan table for a cell
abbrev pub row_of : List ScanRow → List ℕ → Option ScanRow
row_of [] cell = None
row_of (row ∷ more) cell = if bytes_eq cell row.cell then Some row else row_of more cell

-- what an entry of the library means
abbrev pub entry_meaning : Option Entry → Meaning
entry_meaning None = Unknown
entry_meaning (Some (Sound raw)) = Library raw
entry_meaning (Some (Refused raw rule)) = Broken rule

-- the scan table comes before the library
abbrev pub meaning_with : Option ScanRow → Option Entry → Meaning
meaning_with (Some row) entry = ScanCell row
meaning_with None entry = entry_meaning entry

-- what the name of a cell means
abbrev pub meaning_of : List Named → List ScanRow → List ℕ → Meaning
meaning_of library scan cell = meaning_with (row_of scan cell) (entry_of library (upper_case cell))

-- the names of the pins that have a role, in pin order
abbrev pub names_with : (Role → Bool) → List RawPin → List (List ℕ)
names_with is_role [] = []
names_with is_role (pin ∷ pins) =
    if is_role pin.role then pin.name ∷ names_with is_role pins else names_with is_role pins

-- the names of the input pins, in pin order
abbrev pub input_names : Meaning → List (List ℕ)
input_names Unknown = []
input_names (Broken rule) = []
input_names (Library raw) = names_with is_input raw.pins
input_names (ScanCell row) = row.d ∷ row.si ∷ row.se ∷ row.ck ∷ row.hold ∷ []

-- the inverted output of a scan cell, if its row names one
abbrev pub inverted_name : List ℕ → List (List ℕ)
inverted_name [] = []
inverted_name (letter ∷ letters) = (letter ∷ letters) ∷ []

-- the names of the output pins, in pin order
abbrev pub output_names : Meaning → List (List ℕ)
output_names Unknown = []
output_names (Broken rule) = []
output_names (Library raw) = names_with is_output raw.pins
output_names (ScanCell row) = row.q ∷ (inverted_name row.qn ++ row.so ∷ [])

-- what is on the pin of this name, if anything is
abbrev pub bit_on : List RawUse → List ℕ → Option RawBit
bit_on [] pin = None
bit_on (connection ∷ more) pin = if bytes_eq pin connection.pin then connection.bit else bit_on more pin

-- The wires are numbered: the declared bits in declaration order, the constants 0 and 1, and a wire of its
-- own for each output pin that is connected to nothing, in instance order and then pin order.
abbrev pub wire_of : ℕ → RawBit → ℕ
wire_of bits (Bit number) = number
wire_of bits (Constant false) = bits
wire_of bits (Constant true) = bits + 1

-- the wire of an input pin; one that is connected to nothing breaks a rule
abbrev pub input_wire : ℕ → Option RawBit → ℕ
input_wire bits None = bits
input_wire bits (Some bit) = wire_of bits bit

-- the wires of input pins
abbrev pub input_wires : ℕ → List RawUse → List (List ℕ) → List ℕ
input_wires bits uses names = map (λ name. input_wire bits (bit_on uses name)) names

-- how many of the pins are connected to nothing
abbrev pub open_count : List RawUse → List (List ℕ) → ℕ
open_count uses names = count_by (λ name. is_none (bit_on uses name)) names

-- the wires of output pins, where the next wire of its own has the number `own`
abbrev pub output_wires : ℕ → List RawUse → ℕ → List (List ℕ) → List ℕ
output_wires bits uses own [] = []
output_wires bits uses own (name ∷ names) =
    elim (bit_on uses name) [
      | None ↦ own ∷ output_wires bits uses (own + 1) names
      | Some bit ↦ wire_of bits bit ∷ output_wires bits uses own names
    ]

-- whether a name is declared as an input
abbrev pub is_input_port : Direction → Bool
is_input_port Input = true
is_input_port Output = false
is_input_port Inner = false

-- a bit of a port: its name, whether it is of an input port, and its wire
pub record HeaderBit : Type 0 where
  pub name : List ℕ
  pub is_input : Bool
  pub wire : ℕ

-- the index of the k-th bit of a vector, from its left index to its right one
abbrev pub index_at : ℕ × ℕ → ℕ → ℕ
index_at range k = if nat_le range.0 range.1 then range.0 + k else range.0 - k

-- the name of the k-th bit of a declared name: `a`, or `bus[3]` where it is a vector
abbrev pub bit_name : RawBus → Option (ℕ × ℕ) → ℕ → List ℕ
bit_name bus None k = bus.name
bit_name bus (Some range) k = bus.name ++ (codes "[" ++ (decimal (index_at range k) ++ codes "]"))

-- the bits of a declared name from the k-th on, the first of which is the wire `first`
abbrev pub header_bits_from : RawBus → ℕ → ℕ → ℕ → List HeaderBit
header_bits_from bus first k zero = []
header_bits_from bus first k (suc count) =
    record { name = bit_name bus bus.range k; is_input = is_input_port bus.direction; wire = first + k } ∷
    header_bits_from bus first (k + 1) count

-- the bits of the declared name at a place
abbrev pub header_bits_of : List RawBus → ℕ → Option RawBus → List HeaderBit
header_bits_of buses place None = []
header_bits_of buses place (Some bus) =
    header_bits_from bus (bit_count (take place buses)) 0 (range_width bus.range)

-- the port bits in header order
abbrev pub header_bits : List RawBus → List ℕ → List HeaderBit
header_bits buses ports = flat_map (λ place. header_bits_of buses place (slice_get buses place)) ports

-- an instance, with the wires of its input pins and of its output pins, each in their order
pub record WiredPart : Type 0 where
  pub name : List ℕ
  pub cell : List ℕ
  pub meaning : Meaning
  pub inputs : List ℕ
  pub outputs : List ℕ

-- the number of declared bits; the joins of wires; the instances in netlist order; and the port bits in
-- header order
pub record Wiring : Type 0 where
  pub bits : ℕ
  pub joins : List Join
  pub parts : List WiredPart
  pub header : List HeaderBit

-- the wires of the bits of output ports
abbrev pub out_bits : Wiring → List ℕ
out_bits wiring = flat_map (λ port. if port.is_input then [] else port.wire ∷ []) wiring.header

-- the wires of an instance, the first wire of its own being `own`
abbrev pub wired_part : ℕ → ℕ → Meaning → RawInstance → WiredPart
wired_part bits own meaning instance = record {
  name = instance.name;
  cell = instance.cell;
  meaning = meaning;
  inputs = input_wires bits instance.pins (input_names meaning);
  outputs = output_wires bits instance.pins own (output_names meaning);
}

-- those of all instances
abbrev pub wired_parts : List Named → List ScanRow → ℕ → ℕ → List RawInstance → List WiredPart
wired_parts library scan bits own [] = []
wired_parts library scan bits own (instance ∷ more) =
    wired_part bits own (meaning_of library scan instance.cell) instance
    ∷ wired_parts library scan bits (own + open_count instance.pins (output_names
    (meaning_of library scan instance.cell))) more

-- the wires that `assign`s join, where this many bits are declared
abbrev pub joins_of : ℕ → List RawJoin → List Join
joins_of bits joins =
    map (λ join. record { left = wire_of bits join.left; right = wire_of bits join.right }) joins

-- the wiring of a netlist, with this library and this scan table
abbrev pub wiring_of : RawNetlist → List Named → List ScanRow → Wiring
wiring_of raw library scan = record {
  bits = bit_count raw.buses;
  joins = joins_of (bit_count raw.buses) raw.joins;
  parts = wired_parts library scan (bit_count raw.buses) (bit_count raw.buses + 2) raw.instances;
  header = header_bits raw.buses raw.ports;
}
