-- The grammar of a gate netlist, over what its tokens are. Each definition says that the first list begins
-- with such a part, which the second list follows.
use Rattle.std.specs.Prelude.{ℕ, Bool, List, [], ◌∷◌}
use Rattle.ca_verilog.specs.declared.lexeme.Lexeme.{Lexeme}
use Rattle.ca_verilog.specs.declared.lexeme.Lexeme.TheVariants as lexeme

-- id { "," id }
pub data IsNames : List Lexeme → List Lexeme → Type 0 where
  last : {rest : List Lexeme} → IsNames (lexeme.Name ∷ rest) rest
  more : {names rest : List Lexeme} → IsNames names rest → IsNames (lexeme.Name ∷ lexeme.Comma ∷ names) rest

-- [ "[" number ":" number "]" ]
pub data IsRange : List Lexeme → List Lexeme → Type 0 where
  none : {rest : List Lexeme} → IsRange rest rest
  some : {left right : ℕ} {rest : List Lexeme}
      → IsRange (lexeme.OpenBracket ∷ lexeme.Number left ∷ lexeme.Colon ∷ lexeme.Number right
      ∷ lexeme.CloseBracket ∷ rest) rest

-- id | id "[" number "]" | "1'b0" | "1'b1"
pub data IsOperand : List Lexeme → List Lexeme → Type 0 where
  name : {rest : List Lexeme} → IsOperand (lexeme.Name ∷ rest) rest
  bit : {index : ℕ} {rest : List Lexeme}
      → IsOperand (lexeme.Name ∷ lexeme.OpenBracket ∷ lexeme.Number index ∷ lexeme.CloseBracket ∷ rest) rest
  constant : {value : Bool} {rest : List Lexeme} → IsOperand (lexeme.Constant value ∷ rest) rest

-- "." id "(" [ operand ] ")"
pub data IsPin : List Lexeme → List Lexeme → Type 0 where
  open_pin : {rest : List Lexeme} → IsPin (lexeme.Dot ∷ lexeme.Name ∷ lexeme.Open ∷ lexeme.Close ∷ rest) rest
  on : {operand rest : List Lexeme} → IsOperand operand (lexeme.Close ∷ rest)
      → IsPin (lexeme.Dot ∷ lexeme.Name ∷ lexeme.Open ∷ operand) rest

-- pin { "," pin }
pub data IsPins : List Lexeme → List Lexeme → Type 0 where
  last : {pin rest : List Lexeme} → IsPin pin rest → IsPins pin rest
  more : {pin pins rest : List Lexeme} → IsPin pin (lexeme.Comma ∷ pins) → IsPins pins rest → IsPins pin rest

-- "input" | "output" | "wire"
pub data IsDirection : Lexeme → Type 0 where
  input : IsDirection lexeme.Input
  output : IsDirection lexeme.Output
  wire : IsDirection lexeme.Wire

-- ( "input" | "output" | "wire" ) [ range ] names ";"
-- | "assign" operand "=" operand ";"
-- | id id "(" [ pins ] ")" ";"
pub data IsItem : List Lexeme → List Lexeme → Type 0 where
  declaration : {direction : Lexeme} {range names rest : List Lexeme} → IsDirection direction
      → IsRange range names
      → IsNames names (lexeme.Semicolon ∷ rest) → IsItem (direction ∷ range) rest
  assign : {left right rest : List Lexeme} → IsOperand left (lexeme.Equals ∷ right)
      → IsOperand right (lexeme.Semicolon ∷ rest) → IsItem (lexeme.Assign ∷ left) rest
  bare : {rest : List Lexeme}
      → IsItem (lexeme.Name ∷ lexeme.Name ∷ lexeme.Open ∷ lexeme.Close ∷ lexeme.Semicolon ∷ rest) rest
  instance : {pins rest : List Lexeme} → IsPins pins (lexeme.Close ∷ lexeme.Semicolon ∷ rest)
      → IsItem (lexeme.Name ∷ lexeme.Name ∷ lexeme.Open ∷ pins) rest

-- { item }
pub data IsItems : List Lexeme → List Lexeme → Type 0 where
  none : {rest : List Lexeme} → IsItems rest rest
  more : {item items rest : List Lexeme} → IsItem item items → IsItems items rest → IsItems item rest

-- [ "(" [ names ] ")" ] ";"
pub data IsHeader : List Lexeme → List Lexeme → Type 0 where
  none : {rest : List Lexeme} → IsHeader (lexeme.Semicolon ∷ rest) rest
  bare : {rest : List Lexeme} → IsHeader (lexeme.Open ∷ lexeme.Close ∷ lexeme.Semicolon ∷ rest) rest
  ports : {names rest : List Lexeme} → IsNames names (lexeme.Close ∷ lexeme.Semicolon ∷ rest)
      → IsHeader (lexeme.Open ∷ names) rest

-- "module" id header { item } "endmodule", and nothing after it
pub data IsModule : List Lexeme → Type 0 where
  module_of : {header items : List Lexeme} → IsHeader header items → IsItems items (lexeme.Endmodule ∷ [])
      → IsModule (lexeme.Module ∷ lexeme.Name ∷ header)
