-- A way through the table to its end is a module of the grammar.
use Rattle.std.proofs.Common.{◌≡◌, ℕ, List, [], ◌∷◌, Some, None, Ok}
use Rattle.ca_lex.specs.FirstFault.{steps_from}
use Rattle.ca_verilog.specs.declared.lexeme.Lexeme.{Lexeme}
use Rattle.ca_verilog.specs.declared.lexeme.Lexeme.TheVariants as lexeme
use Rattle.ca_verilog.specs.declared.table.Side.{Side}
use Rattle.ca_verilog.specs.declared.table.Side.TheVariants as side
use Rattle.ca_verilog.specs.declared.table.Place.{Place}
use Rattle.ca_verilog.specs.declared.table.Place.TheVariants as place
use Rattle.ca_verilog.specs.Table.{row_of}
use Rattle.ca_verilog.specs.Path.{places_from}
use Rattle.ca_verilog.specs.Grammar as grammar
use Rattle.ca_verilog.specs.Grammar.{IsNames, IsRange, IsOperand, IsPin, IsPins, IsDirection, IsItem}
use Rattle.ca_verilog.specs.Grammar.{IsItems, IsHeader, IsModule}

-- nothing is left
data IsOver : List Lexeme → Type 0 where
  over : IsOver []

-- items up to the module's end
abbrev AreItems : List Lexeme → Type 0
AreItems lexemes = IsItems lexemes (lexeme.Endmodule ∷ [])

-- `;` and then items
data Closes : List Lexeme → Type 0 where
  closes : {rest : List Lexeme} → AreItems rest → Closes (lexeme.Semicolon ∷ rest)

-- nothing more, or `,` and names
data NamesTail : List Lexeme → List Lexeme → Type 0 where
  no_names : {rest : List Lexeme} → NamesTail rest rest
  more_names : {names rest : List Lexeme} → IsNames names rest → NamesTail (lexeme.Comma ∷ names) rest

-- nothing more, or `,` and pins
data PinsTail : List Lexeme → List Lexeme → Type 0 where
  no_pins : {rest : List Lexeme} → PinsTail rest rest
  more_pins : {pins rest : List Lexeme} → IsPins pins rest → PinsTail (lexeme.Comma ∷ pins) rest

-- what follows each place of a header
abbrev PortRest : List Lexeme → Type 0
PortRest lexemes = (items : List Lexeme) × IsNames lexemes (lexeme.Close ∷ lexeme.Semicolon ∷ items) × AreItems items

abbrev PortEndRest : List Lexeme → Type 0
PortEndRest lexemes = (items : List Lexeme) × NamesTail lexemes (lexeme.Close ∷ lexeme.Semicolon ∷ items) × AreItems items

abbrev HeaderRest : List Lexeme → Type 0
HeaderRest lexemes = (items : List Lexeme) × IsHeader lexemes items × AreItems items

-- what follows each place of a declaration
abbrev DeclaredRest : List Lexeme → Type 0
DeclaredRest lexemes = (rest : List Lexeme) × IsNames lexemes (lexeme.Semicolon ∷ rest) × AreItems rest

abbrev DeclaredEndRest : List Lexeme → Type 0
DeclaredEndRest lexemes = (rest : List Lexeme) × NamesTail lexemes (lexeme.Semicolon ∷ rest) × AreItems rest

data RangeEndRest : List Lexeme → Type 0 where
  range_end : {names : List Lexeme} → DeclaredRest names → RangeEndRest (lexeme.CloseBracket ∷ names)

data RangeRightRest : List Lexeme → Type 0 where
  range_right : {right : ℕ} {names : List Lexeme} → DeclaredRest names → RangeRightRest (lexeme.Number right ∷ lexeme.CloseBracket ∷ names)

data RangeColonRest : List Lexeme → Type 0 where
  range_colon : {right : ℕ} {names : List Lexeme} → DeclaredRest names
      → RangeColonRest (lexeme.Colon ∷ lexeme.Number right ∷ lexeme.CloseBracket ∷ names)

data RangeLeftRest : List Lexeme → Type 0 where
  range_left : {left right : ℕ} {names : List Lexeme} → DeclaredRest names
      → RangeLeftRest (lexeme.Number left ∷ lexeme.Colon ∷ lexeme.Number right ∷ lexeme.CloseBracket ∷ names)

abbrev DeclarationRest : List Lexeme → Type 0
DeclarationRest lexemes = (names : List Lexeme) × IsRange lexemes names × DeclaredRest names

-- what follows the pins of an instance
abbrev PinEndRest : List Lexeme → Type 0
PinEndRest lexemes = (rest : List Lexeme) × PinsTail lexemes (lexeme.Close ∷ lexeme.Semicolon ∷ rest) × AreItems rest

abbrev NextPinRest : List Lexeme → Type 0
NextPinRest lexemes = (rest : List Lexeme) × IsPins lexemes (lexeme.Close ∷ lexeme.Semicolon ∷ rest) × AreItems rest

data FirstPinRest : List Lexeme → Type 0 where
  no_pin : {rest : List Lexeme} → AreItems rest → FirstPinRest (lexeme.Close ∷ lexeme.Semicolon ∷ rest)
  some_pin : {lexemes : List Lexeme} → NextPinRest lexemes → FirstPinRest lexemes

-- the rest of a pin that begins with these, and what follows it
abbrev PinRest : List Lexeme → Type 0
PinRest lexemes = (rest : List Lexeme) × IsPin lexemes rest × PinEndRest rest

-- the rest of an item that begins with these, and the items after it
abbrev ItemRest : List Lexeme → Type 0
ItemRest lexemes = (rest : List Lexeme) × IsItem lexemes rest × AreItems rest

-- what follows an operand
data RightEnd : List Lexeme → Type 0 where
  right_end : {rest : List Lexeme} → AreItems rest → RightEnd (lexeme.Semicolon ∷ rest)

data LeftEnd : List Lexeme → Type 0 where
  left_end : {right rest : List Lexeme} → IsOperand right rest → RightEnd rest → LeftEnd (lexeme.Equals ∷ right)

data ValueEnd : List Lexeme → Type 0 where
  value_end : {rest : List Lexeme} → PinEndRest rest → ValueEnd (lexeme.Close ∷ rest)

abbrev Follows : Side → List Lexeme → Type 0
Follows side.Left lexemes = LeftEnd lexemes
Follows side.Right lexemes = RightEnd lexemes
Follows side.Pin lexemes = ValueEnd lexemes

data IndexEndRest (at : Side) : List Lexeme → Type 0 where
  index_end : {rest : List Lexeme} → Follows at rest → IndexEndRest at (lexeme.CloseBracket ∷ rest)

data IndexRest (at : Side) : List Lexeme → Type 0 where
  index_rest : {index : ℕ} {rest : List Lexeme} → Follows at rest → IndexRest at (lexeme.Number index ∷ lexeme.CloseBracket ∷ rest)

abbrev OperandRest : Side → List Lexeme → Type 0
OperandRest at lexemes = (rest : List Lexeme) × IsOperand lexemes rest × Follows at rest

-- what follows each place, where the way leads to the end
abbrev Rest : Place → List Lexeme → Type 0
Rest place.Start lexemes = IsModule lexemes
Rest place.ModuleName lexemes = IsModule (lexeme.Module ∷ lexemes)
Rest place.Header lexemes = HeaderRest lexemes
Rest place.FirstPort lexemes = HeaderRest (lexeme.Open ∷ lexemes)
Rest place.Port lexemes = PortRest lexemes
Rest place.PortEnd lexemes = PortEndRest lexemes
Rest place.HeaderEnd lexemes = Closes lexemes
Rest place.Item lexemes = AreItems lexemes
Rest place.End lexemes = IsOver lexemes
Rest (place.Declaration direction) lexemes = DeclarationRest lexemes
Rest (place.RangeLeft direction) lexemes = RangeLeftRest lexemes
Rest (place.RangeColon direction left) lexemes = RangeColonRest lexemes
Rest (place.RangeRight direction left) lexemes = RangeRightRest lexemes
Rest (place.RangeEnd direction range) lexemes = RangeEndRest lexemes
Rest (place.Declared direction range) lexemes = DeclaredRest lexemes
Rest (place.DeclaredEnd direction range) lexemes = DeclaredEndRest lexemes
Rest (place.Operand at) lexemes = OperandRest at lexemes
Rest (place.NameEnd at) lexemes = OperandRest at (lexeme.Name ∷ lexemes)
Rest (place.Index at) lexemes = IndexRest at lexemes
Rest (place.IndexEnd at) lexemes = IndexEndRest at lexemes
Rest (place.OperandEnd at) lexemes = Follows at lexemes
Rest place.InstanceName lexemes = ItemRest (lexeme.Name ∷ lexemes)
Rest place.Pins lexemes = ItemRest (lexeme.Name ∷ lexeme.Name ∷ lexemes)
Rest place.FirstPin lexemes = FirstPinRest lexemes
Rest place.NextPin lexemes = NextPinRest lexemes
Rest place.PinName lexemes = PinRest (lexeme.Dot ∷ lexemes)
Rest place.PinOpen lexemes = PinRest (lexeme.Dot ∷ lexeme.Name ∷ lexemes)
Rest place.PinValue lexemes = PinRest (lexeme.Dot ∷ lexeme.Name ∷ lexeme.Open ∷ lexemes)
Rest place.PinEnd lexemes = PinEndRest lexemes
Rest place.InstanceEnd lexemes = Closes lexemes

module_at : {lexemes : List Lexeme} → HeaderRest lexemes → IsModule (lexeme.Module ∷ lexeme.Name ∷ lexemes)
module_at (items, header, rest) = grammar.IsModule.module_of header rest

names_at : {lexemes rest : List Lexeme} → NamesTail lexemes rest → IsNames (lexeme.Name ∷ lexemes) rest
names_at no_names = grammar.IsNames.last
names_at (more_names names) = grammar.IsNames.more names

port_at : {lexemes : List Lexeme} → PortEndRest lexemes → PortRest (lexeme.Name ∷ lexemes)
port_at (items, tail, rest) = (items, names_at tail, rest)

ports_at : {lexemes : List Lexeme} → PortRest lexemes → HeaderRest (lexeme.Open ∷ lexemes)
ports_at (items, names, rest) = (items, grammar.IsHeader.ports names, rest)

next_port : {lexemes : List Lexeme} → PortRest lexemes → PortEndRest (lexeme.Comma ∷ lexemes)
next_port (items, names, rest) = (items, more_names names, rest)

last_port : {lexemes : List Lexeme} → Closes lexemes → PortEndRest (lexeme.Close ∷ lexemes)
last_port (closes {rest} items) = (rest, no_names, items)

bare_header : {lexemes : List Lexeme} → Closes lexemes → HeaderRest (lexeme.Open ∷ lexeme.Close ∷ lexemes)
bare_header (closes {rest} items) = (rest, grammar.IsHeader.bare, items)

declared_at : {lexemes : List Lexeme} → DeclaredEndRest lexemes → DeclaredRest (lexeme.Name ∷ lexemes)
declared_at (rest, tail, items) = (rest, names_at tail, items)

next_declared : {lexemes : List Lexeme} → DeclaredRest lexemes → DeclaredEndRest (lexeme.Comma ∷ lexemes)
next_declared (rest, names, items) = (rest, more_names names, items)

range_at_end : {lexemes : List Lexeme} (right : ℕ) → RangeEndRest lexemes → RangeRightRest (lexeme.Number right ∷ lexemes)
range_at_end right (range_end declared) = range_right declared

range_at_right : {lexemes : List Lexeme} → RangeRightRest lexemes → RangeColonRest (lexeme.Colon ∷ lexemes)
range_at_right (range_right declared) = range_colon declared

range_at_colon : {lexemes : List Lexeme} (left : ℕ) → RangeColonRest lexemes → RangeLeftRest (lexeme.Number left ∷ lexemes)
range_at_colon left (range_colon declared) = range_left declared

range_from_left : {lexemes : List Lexeme} → RangeLeftRest lexemes → DeclarationRest (lexeme.OpenBracket ∷ lexemes)
range_from_left (range_left {left} {right} {names} declared) = (names, grammar.IsRange.some, declared)

item_at : {here : Lexeme} {lexemes : List Lexeme} → IsDirection here → DeclarationRest lexemes → AreItems (here ∷ lexemes)
item_at direction (names, range, (rest, declared, items)) = grammar.IsItems.more (grammar.IsItem.declaration direction range declared) items

assign_ends : {left right rest : List Lexeme} → IsOperand left (lexeme.Equals ∷ right) → IsOperand right rest → RightEnd rest → AreItems (lexeme.Assign ∷ left)
assign_ends left right (right_end items) = grammar.IsItems.more (grammar.IsItem.assign left right) items

assign_goes_on : {left rest : List Lexeme} → IsOperand left rest → LeftEnd rest → AreItems (lexeme.Assign ∷ left)
assign_goes_on left (left_end right follows) = assign_ends left right follows

assign_at : {lexemes : List Lexeme} → OperandRest side.Left lexemes → AreItems (lexeme.Assign ∷ lexemes)
assign_at (rest, left, follows) = assign_goes_on left follows

equals_at : {lexemes : List Lexeme} → OperandRest side.Right lexemes → LeftEnd (lexeme.Equals ∷ lexemes)
equals_at (rest, right, follows) = left_end right follows

right_at : {lexemes : List Lexeme} → AreItems lexemes → RightEnd (lexeme.Semicolon ∷ lexemes)
right_at items = right_end items

bit_at_index : (at : Side) {lexemes : List Lexeme} → IndexRest at lexemes → OperandRest at (lexeme.Name ∷ lexeme.OpenBracket ∷ lexemes)
bit_at_index at (index_rest {index} {rest} follows) = (rest, grammar.IsOperand.bit, follows)

index_at : (at : Side) (index : ℕ) {lexemes : List Lexeme} → IndexEndRest at lexemes → IndexRest at (lexeme.Number index ∷ lexemes)
index_at at index (index_end follows) = index_rest follows

value_closed : {operand rest : List Lexeme} → IsOperand operand rest → ValueEnd rest → PinRest (lexeme.Dot ∷ lexeme.Name ∷ lexeme.Open ∷ operand)
value_closed operand (value_end {rest} ends) = (rest, grammar.IsPin.on operand, ends)

value_at : {lexemes : List Lexeme} → OperandRest side.Pin lexemes → PinRest (lexeme.Dot ∷ lexeme.Name ∷ lexeme.Open ∷ lexemes)
value_at (rest, operand, follows) = value_closed operand follows

pins_at : {pin tail rest : List Lexeme} → IsPin pin tail → PinsTail tail rest → IsPins pin rest
pins_at pin no_pins = grammar.IsPins.last pin
pins_at pin (more_pins pins) = grammar.IsPins.more pin pins

pin_at : {lexemes : List Lexeme} → PinRest lexemes → NextPinRest lexemes
pin_at (tail, pin, (rest, pins, items)) = (rest, pins_at pin pins, items)

next_pin : {lexemes : List Lexeme} → NextPinRest lexemes → PinEndRest (lexeme.Comma ∷ lexemes)
next_pin (rest, pins, items) = (rest, more_pins pins, items)

last_pin : {lexemes : List Lexeme} → Closes lexemes → PinEndRest (lexeme.Close ∷ lexemes)
last_pin (closes {rest} items) = (rest, no_pins, items)

no_first_pin : {lexemes : List Lexeme} → Closes lexemes → FirstPinRest (lexeme.Close ∷ lexemes)
no_first_pin (closes items) = no_pin items

instance_at : {lexemes : List Lexeme} → FirstPinRest lexemes → ItemRest (lexeme.Name ∷ lexeme.Name ∷ lexeme.Open ∷ lexemes)
instance_at (no_pin {rest} items) = (rest, grammar.IsItem.bare, items)
instance_at (some_pin (rest, pins, items)) = (rest, grammar.IsItem.instance pins, items)

items_at : {lexemes : List Lexeme} → ItemRest lexemes → AreItems lexemes
items_at (rest, item, items) = grammar.IsItems.more item items

over_at : {lexemes : List Lexeme} → IsOver lexemes → AreItems (lexeme.Endmodule ∷ lexemes)
over_at over = grammar.IsItems.none

-- a way from a place to the end
way : (at : Place) (lexemes : List Lexeme) → places_from at lexemes ≡ Ok place.End → Rest at lexemes
unfolding steps_from row_of
way place.End [] is = over
way other [] is = absurd cc
way place.Start (lexeme.Module ∷ more) is = way place.ModuleName more is
way place.Start (other ∷ more) is = absurd cc
way place.ModuleName (lexeme.Name ∷ more) is = module_at (way place.Header more is)
way place.ModuleName (other ∷ more) is = absurd cc
way place.Header (lexeme.Open ∷ more) is = way place.FirstPort more is
way place.Header (lexeme.Semicolon ∷ more) is = (more, grammar.IsHeader.none, way place.Item more is)
way place.Header (other ∷ more) is = absurd cc
way place.FirstPort (lexeme.Name ∷ more) is = ports_at (port_at (way place.PortEnd more is))
way place.FirstPort (lexeme.Close ∷ more) is = bare_header (way place.HeaderEnd more is)
way place.FirstPort (other ∷ more) is = absurd cc
way place.Port (lexeme.Name ∷ more) is = port_at (way place.PortEnd more is)
way place.Port (other ∷ more) is = absurd cc
way place.PortEnd (lexeme.Comma ∷ more) is = next_port (way place.Port more is)
way place.PortEnd (lexeme.Close ∷ more) is = last_port (way place.HeaderEnd more is)
way place.PortEnd (other ∷ more) is = absurd cc
way place.HeaderEnd (lexeme.Semicolon ∷ more) is = closes (way place.Item more is)
way place.HeaderEnd (other ∷ more) is = absurd cc
way place.Item (lexeme.Input ∷ more) is = item_at grammar.IsDirection.input (way (place.Declaration _) more is)
way place.Item (lexeme.Output ∷ more) is = item_at grammar.IsDirection.output (way (place.Declaration _) more is)
way place.Item (lexeme.Wire ∷ more) is = item_at grammar.IsDirection.wire (way (place.Declaration _) more is)
way place.Item (lexeme.Assign ∷ more) is = assign_at (way (place.Operand side.Left) more is)
way place.Item (lexeme.Name ∷ more) is = items_at (way place.InstanceName more is)
way place.Item (lexeme.Endmodule ∷ more) is = over_at (way place.End more is)
way place.Item (other ∷ more) is = absurd cc
way place.End (lexeme.Module ∷ more) is = absurd cc
way place.End (other ∷ more) is = absurd cc
way (place.Declaration direction) (lexeme.OpenBracket ∷ more) is = range_from_left (way (place.RangeLeft direction) more is)
way (place.Declaration direction) (lexeme.Name ∷ more) is = (lexeme.Name ∷ more, grammar.IsRange.none, declared_at (way (place.DeclaredEnd direction None) more is))
way (place.Declaration direction) (other ∷ more) is = absurd cc
way (place.RangeLeft direction) (lexeme.Number left ∷ more) is = range_at_colon left (way (place.RangeColon direction left) more is)
way (place.RangeLeft direction) (other ∷ more) is = absurd cc
way (place.RangeColon direction left) (lexeme.Colon ∷ more) is = range_at_right (way (place.RangeRight direction left) more is)
way (place.RangeColon direction left) (other ∷ more) is = absurd cc
way (place.RangeRight direction left) (lexeme.Number right ∷ more) is =
    range_at_end right (way (place.RangeEnd direction (record { left = left; right = right })) more is)
way (place.RangeRight direction left) (other ∷ more) is = absurd cc
way (place.RangeEnd direction range) (lexeme.CloseBracket ∷ more) is = range_end (way (place.Declared direction (Some range)) more is)
way (place.RangeEnd direction range) (other ∷ more) is = absurd cc
way (place.Declared direction range) (lexeme.Name ∷ more) is = declared_at (way (place.DeclaredEnd direction range) more is)
way (place.Declared direction range) (other ∷ more) is = absurd cc
way (place.DeclaredEnd direction range) (lexeme.Comma ∷ more) is = next_declared (way (place.Declared direction range) more is)
way (place.DeclaredEnd direction range) (lexeme.Semicolon ∷ more) is = (more, no_names, way place.Item more is)
way (place.DeclaredEnd direction range) (other ∷ more) is = absurd cc
way (place.Operand at) (lexeme.Name ∷ more) is = way (place.NameEnd at) more is
way (place.Operand at) (lexeme.Constant value ∷ more) is = (more, grammar.IsOperand.constant, way (place.OperandEnd at) more is)
way (place.Operand at) (other ∷ more) is = absurd cc
way (place.NameEnd at) (lexeme.OpenBracket ∷ more) is = bit_at_index at (way (place.Index at) more is)
way (place.NameEnd side.Left) (lexeme.Equals ∷ more) is = (lexeme.Equals ∷ more, grammar.IsOperand.name, equals_at (way (place.Operand side.Right) more is))
way (place.NameEnd side.Right) (lexeme.Semicolon ∷ more) is = (lexeme.Semicolon ∷ more, grammar.IsOperand.name, right_at (way place.Item more is))
way (place.NameEnd side.Pin) (lexeme.Close ∷ more) is = (lexeme.Close ∷ more, grammar.IsOperand.name, value_end (way place.PinEnd more is))
way (place.NameEnd side.Left) (other ∷ more) is = absurd cc
way (place.NameEnd side.Right) (other ∷ more) is = absurd cc
way (place.NameEnd side.Pin) (other ∷ more) is = absurd cc
way (place.Index at) (lexeme.Number index ∷ more) is = index_at at index (way (place.IndexEnd at) more is)
way (place.Index at) (other ∷ more) is = absurd cc
way (place.IndexEnd at) (lexeme.CloseBracket ∷ more) is = index_end (way (place.OperandEnd at) more is)
way (place.IndexEnd at) (other ∷ more) is = absurd cc
way (place.OperandEnd side.Left) (lexeme.Equals ∷ more) is = equals_at (way (place.Operand side.Right) more is)
way (place.OperandEnd side.Right) (lexeme.Semicolon ∷ more) is = right_at (way place.Item more is)
way (place.OperandEnd side.Pin) (lexeme.Close ∷ more) is = value_end (way place.PinEnd more is)
way (place.OperandEnd side.Left) (other ∷ more) is = absurd cc
way (place.OperandEnd side.Right) (other ∷ more) is = absurd cc
way (place.OperandEnd side.Pin) (other ∷ more) is = absurd cc
way place.InstanceName (lexeme.Name ∷ more) is = way place.Pins more is
way place.InstanceName (other ∷ more) is = absurd cc
way place.Pins (lexeme.Open ∷ more) is = instance_at (way place.FirstPin more is)
way place.Pins (other ∷ more) is = absurd cc
way place.FirstPin (lexeme.Dot ∷ more) is = some_pin (pin_at (way place.PinName more is))
way place.FirstPin (lexeme.Close ∷ more) is = no_first_pin (way place.InstanceEnd more is)
way place.FirstPin (other ∷ more) is = absurd cc
way place.NextPin (lexeme.Dot ∷ more) is = pin_at (way place.PinName more is)
way place.NextPin (other ∷ more) is = absurd cc
way place.PinName (lexeme.Name ∷ more) is = way place.PinOpen more is
way place.PinName (other ∷ more) is = absurd cc
way place.PinOpen (lexeme.Open ∷ more) is = way place.PinValue more is
way place.PinOpen (other ∷ more) is = absurd cc
way place.PinValue (lexeme.Close ∷ more) is = (more, grammar.IsPin.open_pin, way place.PinEnd more is)
way place.PinValue (lexeme.Name ∷ more) is = value_at (way (place.NameEnd side.Pin) more is)
way place.PinValue (lexeme.Constant value ∷ more) is = value_at (more, grammar.IsOperand.constant, way (place.OperandEnd side.Pin) more is)
way place.PinValue (other ∷ more) is = absurd cc
way place.PinEnd (lexeme.Comma ∷ more) is = next_pin (way place.NextPin more is)
way place.PinEnd (lexeme.Close ∷ more) is = last_pin (way place.InstanceEnd more is)
way place.PinEnd (other ∷ more) is = absurd cc
way place.InstanceEnd (lexeme.Semicolon ∷ more) is = closes (way place.Item more is)
way place.InstanceEnd (other ∷ more) is = absurd cc

-- a way from the start to the end is a module
pub module_way : (lexemes : List Lexeme) → places_from place.Start lexemes ≡ Ok place.End → IsModule lexemes
module_way lexemes is = way place.Start lexemes is
