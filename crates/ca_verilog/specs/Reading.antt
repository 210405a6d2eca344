-- What was read of a gate netlist, and what the next token makes of it.
use Rattle.std.specs.Prelude.{ℕ, ◌+◌, ◌-◌, ◌==◌, nat_le, Bool, false, not, ◌&&◌, ◌||◌}
use Rattle.std.specs.Prelude.{List, [], ◌∷◌, ◌++◌, Option, Some, None, is_some, Result, Ok, Err}
use Rattle.std.specs.List.{list_all}
use Rattle.ca_lex.specs.Reading.{unless}
use Rattle.ca_lex.specs.Words.{upper_case}
use Rattle.ca_verilog.specs.declared.bus.Bus.{Bus}
use Rattle.ca_verilog.specs.declared.fault.VerilogKind.{VerilogKind}
use Rattle.ca_verilog.specs.declared.fault.VerilogKind.TheVariants.{Undeclared, DoubleName, BadRange}
use Rattle.ca_verilog.specs.declared.instance.Operand.{Operand}
use Rattle.ca_verilog.specs.declared.instance.Operand.TheVariants.{Whole, Bit, Constant}
use Rattle.ca_verilog.specs.declared.instance.Join.{Join}
use Rattle.ca_verilog.specs.declared.instance.Use.{Use}
use Rattle.ca_verilog.specs.declared.instance.Instance.{Instance}
use Rattle.ca_verilog.specs.declared.lexeme.Lexeme.{Lexeme}
use Rattle.ca_verilog.specs.declared.table.Direction.{Direction}
use Rattle.ca_verilog.specs.declared.table.Range.{Range}
use Rattle.ca_verilog.specs.declared.table.Place.{Place}
use Rattle.ca_verilog.specs.declared.table.Place.TheVariants.{Start}
use Rattle.ca_verilog.specs.declared.table.Action.{Action}
use Rattle.ca_verilog.specs.declared.table.Action.TheVariants as action
use Rattle.ca_verilog.specs.Bus.{bus_of, declare, has_direction, range_at}
use Rattle.ca_verilog.specs.Instance.{has_pin, has_instance}
use Rattle.ca_names.specs.Names.{has_name, with_name}
use Rattle.ca_verilog.specs.Table.{row_of}

-- what is in hand: the instance, its pin and the operands that are being read
pub record Hand : Type 0 where
  pub cell : List ℕ
  pub name : List ℕ
  pub uses : List Use
  pub pin : List ℕ
  pub left : Operand
  pub operand : Operand

-- what was read so far: where the reading is in the grammar, the header's names, the declared ones, what is
-- joined, the instances, and what is in hand
pub record Reading : Type 0 where
  pub place : Place
  pub ports : List (List ℕ)
  pub buses : List Bus
  pub joins : List Join
  pub instances : List Instance
  pub hand : Hand

-- what was read with the token, or the first rule that it breaks
abbrev pub Step : Type 0
Step = Result Reading VerilogKind

-- what is read before the first token
abbrev pub nothing : Reading
nothing = record {
  place = Start;
  ports = [];
  buses = [];
  joins = [];
  instances = [];
  hand = record {
    cell = [];
    name = [];
    uses = [];
    pin = [];
    left = Constant false;
    operand = Constant false;
  };
}

-- the same with another part
abbrev pub at_place : Place → Reading → Reading
at_place place it = record it { place = place }

abbrev pub with_ports : List (List ℕ) → Reading → Reading
with_ports ports it = record it { ports = ports }

abbrev pub with_buses : List Bus → Reading → Reading
with_buses buses it = record it { buses = buses }

abbrev pub with_hand : Hand → Reading → Reading
with_hand hand it = record it { hand = hand }

abbrev pub with_operand : Operand → Reading → Reading
with_operand operand it = with_hand (record it.hand { operand = operand }) it

-- a name of the header
abbrev pub add_port : List ℕ → Reading → Step
add_port name it = unless (has_name name it.ports) DoubleName (Ok (with_ports (with_name name it.ports) it))

-- a declaration
abbrev pub given_buses : Reading → Result (List Bus) VerilogKind → Step
given_buses it (Ok buses) = Ok (with_buses buses it)
given_buses it (Err kind) = Err kind

abbrev pub declare_name : Direction → Option Range → List ℕ → Reading → Step
declare_name direction range name it = given_buses it (declare direction range name it.ports it.buses)

-- the module's end, where each name of the header has a direction
abbrev pub close : Reading → Step
close it = unless (not (list_all (has_direction it.buses) it.ports)) Undeclared (Ok it)

-- the cell of an instance, folded
abbrev pub take_cell : List ℕ → Reading → Step
take_cell name it = Ok (with_hand (record it.hand { cell = upper_case name }) it)

-- the name of an instance
abbrev pub take_instance : List ℕ → Reading → Step
take_instance name it = unless (has_instance name it.instances) DoubleName
    (Ok (with_hand (record it.hand { name = name; uses = [] }) it))

-- the name of a pin, folded
abbrev pub take_pin : List ℕ → Reading → Step
take_pin name it = unless (has_pin (upper_case name) it.hand.uses) DoubleName
    (Ok (with_hand (record it.hand { pin = upper_case name }) it))

-- a declared name as operand
abbrev pub refer : List ℕ → Reading → Step
refer name it = elim (bus_of name it.buses) [
  | None ↦ Err Undeclared
  | Some place ↦ Ok (with_operand (Whole place) it)
]

-- the operand is a vector as a whole
abbrev pub is_vector : List Bus → Operand → Bool
is_vector buses (Whole place) = is_some (range_at place buses)
is_vector buses _ = false

-- the `[` after an operand
abbrev pub open_index : Reading → Step
open_index it = unless (not (is_vector it.buses it.hand.operand)) BadRange (Ok it)

-- the index is one of the range's
abbrev pub has_index : ℕ → Range → Bool
has_index index range = (nat_le range.left index && nat_le index range.right)
    || (nat_le range.right index && nat_le index range.left)

-- the bit of a vector
abbrev pub bit_in : ℕ → ℕ → Option Range → Result Operand VerilogKind
bit_in place index None = Err BadRange
bit_in place index (Some range) = unless (not (has_index index range)) BadRange (Ok (Bit place index))

abbrev pub selected : List Bus → Operand → ℕ → Result Operand VerilogKind
selected buses (Whole place) index = bit_in place index (range_at place buses)
selected buses _ index = Err BadRange

abbrev pub given_operand : Reading → Result Operand VerilogKind → Step
given_operand it (Ok operand) = Ok (with_operand operand it)
given_operand it (Err kind) = Err kind

abbrev pub select : ℕ → Reading → Step
select index it = given_operand it (selected it.buses it.hand.operand index)

-- the pin in hand with what is on it
abbrev pub with_use : Option Operand → Reading → Reading
with_use operand it = with_hand (record it.hand {
  uses = it.hand.uses ++ record { pin = it.hand.pin; operand = operand } ∷ [];
  pin = [];
}) it

-- the operand is on the pin, unless it is a vector as a whole
abbrev pub connect : Reading → Step
connect it = unless (is_vector it.buses it.hand.operand) BadRange (Ok (with_use (Some it.hand.operand) it))

-- the operand is the left side of an `assign`
abbrev pub keep_left : Reading → Reading
keep_left it = with_hand (record it.hand { left = it.hand.operand }) it

-- the number of bits of a range
abbrev pub width_in : Option Range → ℕ
width_in None = 1
width_in (Some range) = (range.left - range.right) + (range.right - range.left) + 1

-- the number of bits of an operand
abbrev pub width_of : List Bus → Operand → ℕ
width_of buses (Whole place) = width_in (range_at place buses)
width_of buses _ = 1

-- both sides are joined, if they have the same number of bits
abbrev pub join : Reading → Step
join it = unless (not (width_of it.buses it.hand.left == width_of it.buses it.hand.operand)) BadRange
    (Ok (record it { joins = it.joins ++ record { left = it.hand.left; right = it.hand.operand } ∷ [] }))

-- the instance in hand is read
abbrev pub end_instance : Reading → Reading
end_instance it = record it {
  instances = it.instances ++ record { name = it.hand.name; cell = it.hand.cell; uses = it.hand.uses } ∷ [];
  hand = record it.hand { cell = []; name = []; uses = [] };
}

-- what a token does, with its name where it is an identifier
unfoldable pub act : Action → List ℕ → Reading → Step
act action.Nothing name it = Ok it
act action.AddPort name it = add_port name it
act (action.Declare direction range) name it = declare_name direction range name it
act action.Close name it = close it
act action.TakeCell name it = take_cell name it
act action.TakeInstance name it = take_instance name it
act action.TakePin name it = take_pin name it
act action.Refer name it = refer name it
act action.OpenIndex name it = open_index it
act (action.Select index) name it = select index it
act (action.TakeConstant value) name it = Ok (with_operand (Constant value) it)
act action.LeaveOpen name it = Ok (with_use None it)
act action.Connect name it = connect it
act action.KeepLeft name it = Ok (keep_left it)
act action.Join name it = join it
act action.EndInstance name it = Ok (end_instance it)

-- what the next token makes of what was read: its row in the table first, and then what it does
unfoldable pub lexeme_step : Lexeme → List ℕ → Reading → Step
lexeme_step lexeme name it = elim (row_of it.place lexeme) [
  | Err kind ↦ Err kind
  | Ok row ↦ act row.action name (at_place row.place it)
]
