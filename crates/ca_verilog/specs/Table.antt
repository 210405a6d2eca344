-- The table of the grammar: which tokens may follow at each place, where each leads, and what it does. A
-- token that no row has is Unsupported where it belongs to the larger language, and else Syntax.
use Rattle.std.specs.Prelude.{ℕ, Option, Some, None, Result, Ok, Err}
use Rattle.ca_verilog.specs.declared.fault.VerilogKind.{VerilogKind}
use Rattle.ca_verilog.specs.declared.fault.VerilogKind.TheVariants.{Syntax, Unsupported}
use Rattle.ca_verilog.specs.declared.lexeme.Lexeme.{Lexeme}
use Rattle.ca_verilog.specs.declared.lexeme.Lexeme.TheVariants as lexeme
use Rattle.ca_verilog.specs.declared.table.Direction.{Direction}
use Rattle.ca_verilog.specs.declared.table.Direction.TheVariants as direction
use Rattle.ca_verilog.specs.declared.table.Range.{Range}
use Rattle.ca_verilog.specs.declared.table.Side.{Side}
use Rattle.ca_verilog.specs.declared.table.Side.TheVariants as side
use Rattle.ca_verilog.specs.declared.table.Place.{Place}
use Rattle.ca_verilog.specs.declared.table.Place.TheVariants as place
use Rattle.ca_verilog.specs.declared.table.Action.{Action}
use Rattle.ca_verilog.specs.declared.table.Action.TheVariants as action
use Rattle.ca_verilog.specs.declared.table.Row.{Row}

-- where a token leads and what it does, or the rule that it breaks
abbrev pub Move : Type 0
Move = Result Row VerilogKind

-- the token leads there and does this
abbrev pub act : Place → Action → Move
act place action = Ok (record { place = place; action = action })

-- the token leads there, and does nothing else
abbrev pub go : Place → Move
go place = act place action.Nothing

-- a token that no row has
abbrev pub stray : Lexeme → Move
stray lexeme.Refused = Err Unsupported
stray _ = Err Syntax

-- the text begins with `module`
abbrev pub start_row : Lexeme → Move
start_row lexeme.Module = go place.ModuleName
start_row other = stray other

-- the module's name
abbrev pub module_name_row : Lexeme → Move
module_name_row lexeme.Name = go place.Header
module_name_row other = stray other

-- the header, or none
abbrev pub header_row : Lexeme → Move
header_row lexeme.Open = go place.FirstPort
header_row lexeme.Semicolon = go place.Item
header_row other = stray other

-- a name of the header; a direction there is of the larger language
abbrev pub port_row : Lexeme → Move
port_row lexeme.Name = act place.PortEnd action.AddPort
port_row lexeme.Input = Err Unsupported
port_row lexeme.Output = Err Unsupported
port_row other = stray other

-- the header's first name, or its end
abbrev pub first_port_row : Lexeme → Move
first_port_row lexeme.Close = go place.HeaderEnd
first_port_row other = port_row other

-- a further name of the header, or its end
abbrev pub port_end_row : Lexeme → Move
port_end_row lexeme.Comma = go place.Port
port_end_row lexeme.Close = go place.HeaderEnd
port_end_row other = stray other

-- the `;` after the header
abbrev pub header_end_row : Lexeme → Move
header_end_row lexeme.Semicolon = go place.Item
header_end_row other = stray other

-- an item, or the module's end; a module in a module is of the larger language
abbrev pub item_row : Lexeme → Move
item_row lexeme.Input = go (place.Declaration direction.Input)
item_row lexeme.Output = go (place.Declaration direction.Output)
item_row lexeme.Wire = go (place.Declaration direction.Inner)
item_row lexeme.Assign = go (place.Operand side.Left)
item_row lexeme.Name = act place.InstanceName action.TakeCell
item_row lexeme.Endmodule = act place.End action.Close
item_row lexeme.Module = Err Unsupported
item_row other = stray other

-- nothing but the text's end; a second module is of the larger language
abbrev pub end_row : Lexeme → Move
end_row lexeme.Module = Err Unsupported
end_row other = stray other

-- a range, or the first name
abbrev pub declaration_row : Direction → Lexeme → Move
declaration_row direction lexeme.OpenBracket = go (place.RangeLeft direction)
declaration_row direction lexeme.Name = act (place.DeclaredEnd direction None) (action.Declare direction None)
declaration_row _ other = stray other

-- the left number of a range
abbrev pub range_left_row : Direction → Lexeme → Move
range_left_row direction (lexeme.Number left) = go (place.RangeColon direction left)
range_left_row _ other = stray other

-- the `:` of a range
abbrev pub range_colon_row : Direction → ℕ → Lexeme → Move
range_colon_row direction left lexeme.Colon = go (place.RangeRight direction left)
range_colon_row _ _ other = stray other

-- the right number of a range
abbrev pub range_right_row : Direction → ℕ → Lexeme → Move
range_right_row direction left (lexeme.Number right) =
    go (place.RangeEnd direction (record { left = left; right = right }))
range_right_row _ _ other = stray other

-- the `]` of a range
abbrev pub range_end_row : Direction → Range → Lexeme → Move
range_end_row direction range lexeme.CloseBracket = go (place.Declared direction (Some range))
range_end_row _ _ other = stray other

-- a name after a range or a `,`
abbrev pub declared_row : Direction → Option Range → Lexeme → Move
declared_row direction range lexeme.Name =
    act (place.DeclaredEnd direction range) (action.Declare direction range)
declared_row _ _ other = stray other

-- a further name, or the declaration's end
abbrev pub declared_end_row : Direction → Option Range → Lexeme → Move
declared_end_row direction range lexeme.Comma = go (place.Declared direction range)
declared_end_row direction range lexeme.Semicolon = go place.Item
declared_end_row _ _ other = stray other

-- an operand; another constant is of the larger language
abbrev pub operand_row : Side → Lexeme → Move
operand_row side lexeme.Name = act (place.NameEnd side) action.Refer
operand_row side (lexeme.Constant value) = act (place.OperandEnd side) (action.TakeConstant value)
operand_row _ (lexeme.Number _) = Err Unsupported
operand_row _ lexeme.Large = Err Unsupported
operand_row _ other = stray other

-- what follows an operand
abbrev pub operand_end_row : Side → Lexeme → Move
operand_end_row side.Left lexeme.Equals = act (place.Operand side.Right) action.KeepLeft
operand_end_row side.Right lexeme.Semicolon = act place.Item action.Join
operand_end_row side.Pin lexeme.Close = act place.PinEnd action.Connect
operand_end_row _ other = stray other

-- a bit of the name, or what follows an operand
abbrev pub name_end_row : Side → Lexeme → Move
name_end_row side lexeme.OpenBracket = act (place.Index side) action.OpenIndex
name_end_row side other = operand_end_row side other

-- the number of a bit
abbrev pub index_row : Side → Lexeme → Move
index_row side (lexeme.Number index) = act (place.IndexEnd side) (action.Select index)
index_row _ other = stray other

-- the `]` after it; a part select is of the larger language
abbrev pub index_end_row : Side → Lexeme → Move
index_end_row side lexeme.CloseBracket = go (place.OperandEnd side)
index_end_row _ lexeme.Colon = Err Unsupported
index_end_row _ other = stray other

-- the name of an instance
abbrev pub instance_name_row : Lexeme → Move
instance_name_row lexeme.Name = act place.Pins action.TakeInstance
instance_name_row other = stray other

-- the `(` before the pins
abbrev pub pins_row : Lexeme → Move
pins_row lexeme.Open = go place.FirstPin
pins_row other = stray other

-- a pin; one without its name is of the larger language
abbrev pub next_pin_row : Lexeme → Move
next_pin_row lexeme.Dot = go place.PinName
next_pin_row lexeme.Name = Err Unsupported
next_pin_row (lexeme.Number _) = Err Unsupported
next_pin_row lexeme.Large = Err Unsupported
next_pin_row (lexeme.Constant _) = Err Unsupported
next_pin_row other = stray other

-- the first pin, or the end of the pins
abbrev pub first_pin_row : Lexeme → Move
first_pin_row lexeme.Close = go place.InstanceEnd
first_pin_row other = next_pin_row other

-- the name of a pin
abbrev pub pin_name_row : Lexeme → Move
pin_name_row lexeme.Name = act place.PinOpen action.TakePin
pin_name_row other = stray other

-- the `(` after it
abbrev pub pin_open_row : Lexeme → Move
pin_open_row lexeme.Open = go place.PinValue
pin_open_row other = stray other

-- what is on the pin, or nothing
abbrev pub pin_value_row : Lexeme → Move
pin_value_row lexeme.Close = act place.PinEnd action.LeaveOpen
pin_value_row other = operand_row side.Pin other

-- a further pin, or the end of the pins
abbrev pub pin_end_row : Lexeme → Move
pin_end_row lexeme.Comma = go place.NextPin
pin_end_row lexeme.Close = go place.InstanceEnd
pin_end_row other = stray other

-- the `;` after the pins
abbrev pub instance_end_row : Lexeme → Move
instance_end_row lexeme.Semicolon = act place.Item action.EndInstance
instance_end_row other = stray other

-- the table
unfoldable pub row_of : Place → Lexeme → Move
row_of place.Start lexeme = start_row lexeme
row_of place.ModuleName lexeme = module_name_row lexeme
row_of place.Header lexeme = header_row lexeme
row_of place.FirstPort lexeme = first_port_row lexeme
row_of place.Port lexeme = port_row lexeme
row_of place.PortEnd lexeme = port_end_row lexeme
row_of place.HeaderEnd lexeme = header_end_row lexeme
row_of place.Item lexeme = item_row lexeme
row_of place.End lexeme = end_row lexeme
row_of (place.Declaration direction) lexeme = declaration_row direction lexeme
row_of (place.RangeLeft direction) lexeme = range_left_row direction lexeme
row_of (place.RangeColon direction left) lexeme = range_colon_row direction left lexeme
row_of (place.RangeRight direction left) lexeme = range_right_row direction left lexeme
row_of (place.RangeEnd direction range) lexeme = range_end_row direction range lexeme
row_of (place.Declared direction range) lexeme = declared_row direction range lexeme
row_of (place.DeclaredEnd direction range) lexeme = declared_end_row direction range lexeme
row_of (place.Operand side) lexeme = operand_row side lexeme
row_of (place.NameEnd side) lexeme = name_end_row side lexeme
row_of (place.Index side) lexeme = index_row side lexeme
row_of (place.IndexEnd side) lexeme = index_end_row side lexeme
row_of (place.OperandEnd side) lexeme = operand_end_row side lexeme
row_of place.InstanceName lexeme = instance_name_row lexeme
row_of place.Pins lexeme = pins_row lexeme
row_of place.FirstPin lexeme = first_pin_row lexeme
row_of place.NextPin lexeme = next_pin_row lexeme
row_of place.PinName lexeme = pin_name_row lexeme
row_of place.PinOpen lexeme = pin_open_row lexeme
row_of place.PinValue lexeme = pin_value_row lexeme
row_of place.PinEnd lexeme = pin_end_row lexeme
row_of place.InstanceEnd lexeme = instance_end_row lexeme
