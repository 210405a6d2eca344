-- The grammar leads through the table.
use Rattle.std.proofs.Common.{◌≡◌, List, ◌∷◌, Option, Some, None, Ok, refl, ◌∙◌}
use Rattle.ca_lex.specs.FirstFault.{steps_from}
use Rattle.ca_verilog.specs.declared.lexeme.Lexeme.{Lexeme}
use Rattle.ca_verilog.specs.declared.lexeme.Lexeme.TheVariants as lexeme
use Rattle.ca_verilog.specs.declared.table.Direction.{Direction}
use Rattle.ca_verilog.specs.declared.table.Direction.TheVariants as direction
use Rattle.ca_verilog.specs.declared.table.Range.{Range}
use Rattle.ca_verilog.specs.declared.table.Side.TheVariants as side
use Rattle.ca_verilog.specs.declared.table.Place.TheVariants as place
use Rattle.ca_verilog.specs.Table.{row_of}
use Rattle.ca_verilog.specs.Path.{places_from}
use Rattle.ca_verilog.specs.Grammar as grammar
use Rattle.ca_verilog.specs.Grammar.{IsNames, IsRange, IsOperand, IsPin, IsPins, IsDirection, IsItem}
use Rattle.ca_verilog.specs.Grammar.{IsItems, IsHeader, IsModule}

-- names of the header lead to the place after them
pub port_names : {names rest : List Lexeme} → IsNames names rest → places_from place.Port names ≡ places_from place.PortEnd rest
unfolding steps_from row_of
port_names grammar.IsNames.last = refl
port_names (grammar.IsNames.more names) = port_names names

first_ports : {names rest : List Lexeme} → IsNames names rest → places_from place.FirstPort names ≡ places_from place.PortEnd rest
unfolding steps_from row_of
first_ports grammar.IsNames.last = refl
first_ports (grammar.IsNames.more names) = port_names names

header_leads : {header rest : List Lexeme} → IsHeader header rest → places_from place.Header header ≡ places_from place.Item rest
unfolding steps_from row_of
header_leads grammar.IsHeader.none = refl
header_leads grammar.IsHeader.bare = refl
header_leads (grammar.IsHeader.ports names) = first_ports names

-- names of a declaration lead to the place after them
declared_names : (direction : Direction) (range : Option Range) {names rest : List Lexeme} → IsNames names rest
    → places_from (place.Declared direction range) names ≡ places_from (place.DeclaredEnd direction range) rest
unfolding steps_from row_of
declared_names direction range grammar.IsNames.last = refl
declared_names direction range (grammar.IsNames.more names) = declared_names direction range names

first_names : (direction : Direction) {names rest : List Lexeme} → IsNames names rest
    → places_from (place.Declaration direction) names ≡ places_from (place.DeclaredEnd direction None) rest
unfolding steps_from row_of
first_names direction grammar.IsNames.last = refl
first_names direction (grammar.IsNames.more names) = declared_names direction None names

declaration_leads : (direction : Direction) {range names rest : List Lexeme} → IsRange range names → IsNames names (lexeme.Semicolon ∷ rest)
    → places_from (place.Declaration direction) range ≡ places_from place.Item rest
unfolding steps_from row_of
declaration_leads direction grammar.IsRange.none names = first_names direction names
declaration_leads direction (grammar.IsRange.some {left} {right}) names = declared_names direction (Some (record { left = left; right = right })) names

-- an operand leads to the place after what follows it
left_leads : {operand rest : List Lexeme} → IsOperand operand (lexeme.Equals ∷ rest)
    → places_from (place.Operand side.Left) operand ≡ places_from (place.Operand side.Right) rest
unfolding steps_from row_of
left_leads grammar.IsOperand.name = refl
left_leads grammar.IsOperand.bit = refl
left_leads grammar.IsOperand.constant = refl

right_leads : {operand rest : List Lexeme} → IsOperand operand (lexeme.Semicolon ∷ rest)
    → places_from (place.Operand side.Right) operand ≡ places_from place.Item rest
unfolding steps_from row_of
right_leads grammar.IsOperand.name = refl
right_leads grammar.IsOperand.bit = refl
right_leads grammar.IsOperand.constant = refl

value_leads : {operand rest : List Lexeme} → IsOperand operand (lexeme.Close ∷ rest) → places_from place.PinValue operand ≡ places_from place.PinEnd rest
unfolding steps_from row_of
value_leads grammar.IsOperand.name = refl
value_leads grammar.IsOperand.bit = refl
value_leads grammar.IsOperand.constant = refl

-- pins lead to the place after them
pin_leads : {pin rest : List Lexeme} → IsPin pin rest → places_from place.NextPin pin ≡ places_from place.PinEnd rest
unfolding steps_from row_of
pin_leads grammar.IsPin.open_pin = refl
pin_leads (grammar.IsPin.on operand) = value_leads operand

first_leads : {pin rest : List Lexeme} → IsPin pin rest → places_from place.FirstPin pin ≡ places_from place.PinEnd rest
unfolding steps_from row_of
first_leads grammar.IsPin.open_pin = refl
first_leads (grammar.IsPin.on operand) = value_leads operand

pins_lead : {pins rest : List Lexeme} → IsPins pins rest → places_from place.NextPin pins ≡ places_from place.PinEnd rest
unfolding steps_from row_of
pins_lead (grammar.IsPins.last pin) = pin_leads pin
pins_lead (grammar.IsPins.more pin pins) = pin_leads pin ∙ pins_lead pins

first_pins : {pins rest : List Lexeme} → IsPins pins rest → places_from place.FirstPin pins ≡ places_from place.PinEnd rest
unfolding steps_from row_of
first_pins (grammar.IsPins.last pin) = first_leads pin
first_pins (grammar.IsPins.more pin pins) = first_leads pin ∙ pins_lead pins

-- items lead to items
item_leads : {item rest : List Lexeme} → IsItem item rest → places_from place.Item item ≡ places_from place.Item rest
unfolding steps_from row_of
item_leads (grammar.IsItem.declaration grammar.IsDirection.input range names) = declaration_leads direction.Input range names
item_leads (grammar.IsItem.declaration grammar.IsDirection.output range names) = declaration_leads direction.Output range names
item_leads (grammar.IsItem.declaration grammar.IsDirection.wire range names) = declaration_leads direction.Inner range names
item_leads (grammar.IsItem.assign left right) = left_leads left ∙ right_leads right
item_leads grammar.IsItem.bare = refl
item_leads (grammar.IsItem.instance pins) = first_pins pins

items_lead : {items rest : List Lexeme} → IsItems items rest → places_from place.Item items ≡ places_from place.Item rest
items_lead grammar.IsItems.none = refl
items_lead (grammar.IsItems.more item items) = item_leads item ∙ items_lead items

-- a module leads from the start to the end
pub module_leads : {lexemes : List Lexeme} → IsModule lexemes → places_from place.Start lexemes ≡ Ok place.End
unfolding steps_from row_of
module_leads (grammar.IsModule.module_of header items) = header_leads header ∙ items_lead items
