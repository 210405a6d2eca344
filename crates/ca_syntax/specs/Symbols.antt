-- The text of a tree: its tokens, as the grammar spells them.
use Rattle.std.specs.Prelude.{ℕ, ◌≡◌, List, [], ◌∷◌, ◌++◌, map, flat_map, Option, Some, None}
use Rattle.ca_lex.specs.declared.token.Token.{Token}
use Rattle.ca_token.specs.Scan.{scan_of, text_of}
use Rattle.ca_verilog.specs.declared.lexeme.Lexeme.{Lexeme}
use Rattle.ca_verilog.specs.declared.lexeme.Lexeme.TheVariants as lexeme
use Rattle.ca_verilog.specs.declared.table.Direction.{Direction}
use Rattle.ca_verilog.specs.declared.table.Direction.TheVariants as direction
use Rattle.ca_verilog.specs.declared.table.Range.{Range}
use Rattle.ca_verilog.specs.Lexeme.{name_of}
use Rattle.ca_verilog.specs.Module.{lexeme_at}
use Rattle.ca_syntax.specs.Tree.{Operand, Connection, Item, Module}

-- a token: an identifier, by its name, or another, by what it is to the grammar
pub data Symbol : Type 0 where
  identifier : List ℕ → Symbol
  other : Lexeme → Symbol

abbrev pub symbol_of : Lexeme → List ℕ → Symbol
symbol_of lexeme.Name name = Symbol.identifier name
symbol_of lexeme name = Symbol.other lexeme

-- what a token of a text is
abbrev pub symbol_at : List ℕ → Token → Symbol
symbol_at text token = symbol_of (lexeme_at text token) (name_of token.kind (text_of token text))

-- part { "," part }, or nothing
abbrev pub listed : List (List Symbol) → List Symbol
listed [] = []
listed (first ∷ more) = first ++ flat_map (λ part. Symbol.other lexeme.Comma ∷ part) more

-- id
abbrev pub name_symbols : List ℕ → List Symbol
name_symbols name = Symbol.identifier name ∷ []

-- [ "(" [ id { "," id } ] ")" ]
abbrev pub header_symbols : Option (List (List ℕ)) → List Symbol
header_symbols None = []
header_symbols (Some names) =
    Symbol.other lexeme.Open ∷ listed (map name_symbols names) ++ Symbol.other lexeme.Close ∷ []

-- "input" | "output" | "wire"
abbrev pub keyword_of : Direction → Lexeme
keyword_of direction.Input = lexeme.Input
keyword_of direction.Output = lexeme.Output
keyword_of direction.Inner = lexeme.Wire

-- [ "[" number ":" number "]" ]
abbrev pub range_symbols : Option Range → List Symbol
range_symbols None = []
range_symbols (Some range) = Symbol.other lexeme.OpenBracket ∷ Symbol.other (lexeme.Number range.left)
    ∷ Symbol.other lexeme.Colon ∷ Symbol.other (lexeme.Number range.right)
    ∷ Symbol.other lexeme.CloseBracket ∷ []

-- id | id "[" number "]" | "1'b0" | "1'b1"
abbrev pub operand_symbols : Operand → List Symbol
operand_symbols (Operand.whole name) = Symbol.identifier name ∷ []
operand_symbols (Operand.bit name index) = Symbol.identifier name ∷ Symbol.other lexeme.OpenBracket
    ∷ Symbol.other (lexeme.Number index) ∷ Symbol.other lexeme.CloseBracket ∷ []
operand_symbols (Operand.constant value) = Symbol.other (lexeme.Constant value) ∷ []

-- [ operand ]
abbrev pub value_symbols : Option Operand → List Symbol
value_symbols None = []
value_symbols (Some operand) = operand_symbols operand

-- "." id "(" [ operand ] ")"
abbrev pub connection_symbols : Connection → List Symbol
connection_symbols it = Symbol.other lexeme.Dot ∷ Symbol.identifier it.pin ∷ Symbol.other lexeme.Open
    ∷ value_symbols it.value ++ Symbol.other lexeme.Close ∷ []

-- ( "input" | "output" | "wire" ) [ range ] id { "," id } ";"
-- | "assign" operand "=" operand ";"
-- | id id "(" [ connection { "," connection } ] ")" ";"
abbrev pub item_symbols : Item → List Symbol
item_symbols (Item.declaration it) = Symbol.other (keyword_of it.direction) ∷ range_symbols it.range
    ++ listed (map name_symbols (it.first ∷ it.more)) ++ Symbol.other lexeme.Semicolon ∷ []
item_symbols (Item.assign it) = Symbol.other lexeme.Assign ∷ operand_symbols it.left
    ++ Symbol.other lexeme.Equals ∷ operand_symbols it.right ++ Symbol.other lexeme.Semicolon ∷ []
item_symbols (Item.instance it) = Symbol.identifier it.cell ∷ Symbol.identifier it.name
    ∷ Symbol.other lexeme.Open ∷ listed (map connection_symbols it.connections)
    ++ Symbol.other lexeme.Close ∷ Symbol.other lexeme.Semicolon ∷ []

-- "module" id header ";" { item } "endmodule"
abbrev pub module_symbols : Module → List Symbol
module_symbols tree = Symbol.other lexeme.Module ∷ Symbol.identifier tree.name ∷ header_symbols tree.header
    ++ Symbol.other lexeme.Semicolon ∷ flat_map item_symbols tree.items
    ++ Symbol.other lexeme.Endmodule ∷ []

-- the text is tokens alone, and these are the tree's
pub record IsTextOf (text : List ℕ) (tree : Module) : Type 0 where
  pub whole : (scan_of text).flaw ≡ None
  pub spelled : map (symbol_at text) (scan_of text).tokens ≡ module_symbols tree
