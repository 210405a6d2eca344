-- Tokens of the grammar are those of a tree.
use Rattle.std.proofs.Common.{◌≡◌, ℕ, List, [], ◌∷◌, ◌++◌, map, Bool, true, false, Option, Some, None, refl}
use Rattle.std.proofs.Common.{sym, ap, ◌∙◌, subst, append_assoc, append-nil}
use Rattle.std.specs.Prelude.{flat_map}
use Rattle.ca_lex.specs.declared.token.Token.{Token}
use Rattle.ca_token.specs.Scan.{text_of}
use Rattle.ca_verilog.specs.declared.lexeme.Lexeme.{Lexeme}
use Rattle.ca_verilog.specs.declared.lexeme.Lexeme.TheVariants as lexeme
use Rattle.ca_verilog.specs.declared.table.Direction.{Direction}
use Rattle.ca_verilog.specs.declared.table.Direction.TheVariants as direction
use Rattle.ca_verilog.specs.declared.table.Range.{Range}
use Rattle.ca_verilog.specs.Grammar as grammar
use Rattle.ca_verilog.specs.Grammar.{IsNames, IsRange, IsOperand, IsPin, IsPins, IsDirection, IsItem, IsItems}
use Rattle.ca_verilog.specs.Grammar.{IsHeader, IsModule}
use Rattle.ca_verilog.specs.Lexeme.{name_of}
use Rattle.ca_verilog.specs.Module.{lexeme_at}
use Rattle.ca_syntax.specs.Tree.{Operand, Connection, Item, Module}
use Rattle.ca_syntax.specs.Symbols.{Symbol, symbol_of, symbol_at, listed, name_symbols, header_symbols}
use Rattle.ca_syntax.specs.Symbols.{keyword_of, range_symbols, operand_symbols}
use Rattle.ca_syntax.specs.Symbols.{connection_symbols, item_symbols, module_symbols}

-- the tokens are these symbols, and then others that are this rest to the grammar
record Parsed (text : List ℕ) (tokens : List Token) (symbols : List Symbol) (rest : List Lexeme) : Type 0 where
  left : List Token
  spelled : map (symbol_at text) tokens ≡ symbols ++ map (symbol_at text) left
  after : rest ≡ map (lexeme_at text) left

-- nothing, and then all
parsed_none : (text : List ℕ) (tokens : List Token) (rest : List Lexeme) → rest ≡ map (lexeme_at text) tokens → Parsed text tokens [] rest
parsed_none text tokens rest is = record { left = tokens; spelled = refl; after = is }

-- symbols, and then more
abbrev parsed_both : (text : List ℕ) (tokens : List Token) (first second : List Symbol) (middle rest : List Lexeme) (one : Parsed text tokens first middle)
    → Parsed text one.left second rest → Parsed text tokens (first ++ second) rest
parsed_both text tokens first second middle rest one other = record {
  left = other.left;
  spelled = one.spelled ∙ ap (λ more. first ++ more) other.spelled ∙ sym (append_assoc first second (map (symbol_at text) other.left));
  after = other.after;
}

first_same : (one other : Lexeme) (first second : List Lexeme) → one ∷ first ≡ other ∷ second → (one ≡ other) × (first ≡ second)
first_same one other first second is = (cc, cc)

abbrev is_name : Lexeme → Bool
is_name lexeme.Name = true
is_name other = false

other_symbol : (here : Lexeme) (name : List ℕ) → is_name here ≡ false → symbol_of here name ≡ Symbol.other here
other_symbol lexeme.Name name is = absurd cc
other_symbol here name is = refl

-- one token that is no identifier
parsed_other : (text : List ℕ) (tokens : List Token) (here : Lexeme) (rest : List Lexeme) → is_name here ≡ false
    → here ∷ rest ≡ map (lexeme_at text) tokens → Parsed text tokens (Symbol.other here ∷ []) rest
parsed_other text [] here rest other is = absurd cc
parsed_other text (token ∷ tokens) here rest other is =
    let same = first_same here (lexeme_at text token) rest (map (lexeme_at text) tokens) is in
    record {
      left = tokens;
      spelled = ap (λ (symbol : Symbol). symbol ∷ map (symbol_at text) tokens)
          (ap (λ (one : Lexeme). symbol_of one (name_of token.kind (text_of token text))) (sym same.0)
          ∙ other_symbol here (name_of token.kind (text_of token text)) other);
      after = same.1;
    }

-- an identifier
parsed_name : (text : List ℕ) (tokens : List Token) (rest : List Lexeme) → lexeme.Name ∷ rest ≡ map (lexeme_at text) tokens
    → (name : List ℕ) × Parsed text tokens (Symbol.identifier name ∷ []) rest
parsed_name text [] rest is = absurd cc
parsed_name text (token ∷ tokens) rest is =
    let same = first_same lexeme.Name (lexeme_at text token) rest (map (lexeme_at text) tokens) is in (
      name_of token.kind (text_of token text),
      record {
        left = tokens;
        spelled = ap (λ (symbol : Symbol). symbol ∷ map (symbol_at text) tokens)
            (ap (λ (one : Lexeme). symbol_of one (name_of token.kind (text_of token text))) (sym same.0));
        after = same.1;
      },
    )

names_parsed : (text : List ℕ) (tokens : List Token) {names rest : List Lexeme} → IsNames names rest → names ≡ map (lexeme_at text) tokens
    → (first : List ℕ) × (more : List (List ℕ)) × Parsed text tokens (listed (map name_symbols (first ∷ more))) rest
names_parsed text tokens (grammar.IsNames.last {rest}) is =
    let name = parsed_name text tokens rest is in
    (name.0, [], name.1)
names_parsed text tokens (grammar.IsNames.more {names} {rest} later) is =
    let name = parsed_name text tokens (lexeme.Comma ∷ names) is in
    let comma = parsed_other text name.1.left lexeme.Comma names refl name.1.after in
    let others = names_parsed text comma.left later comma.after in (
      name.0,
      others.0 ∷ others.1,
      parsed_both text tokens (Symbol.identifier name.0 ∷ []) (Symbol.other lexeme.Comma ∷ listed (map name_symbols (others.0 ∷ others.1))) _ rest name.1
          (parsed_both text name.1.left (Symbol.other lexeme.Comma ∷ []) (listed (map name_symbols (others.0 ∷ others.1))) _ rest comma others.2),
    )

range_parsed : (text : List ℕ) (tokens : List Token) {range rest : List Lexeme} → IsRange range rest → range ≡ map (lexeme_at text) tokens
    → (given : Option Range) × Parsed text tokens (range_symbols given) rest
range_parsed text tokens (grammar.IsRange.none {rest}) is = (None, parsed_none text tokens rest is)
range_parsed text tokens (grammar.IsRange.some {left} {right} {rest}) is =
    let opens = parsed_other text tokens lexeme.OpenBracket _ refl is in
    let one = parsed_other text opens.left (lexeme.Number left) _ refl opens.after in
    let colon = parsed_other text one.left lexeme.Colon _ refl one.after in
    let two = parsed_other text colon.left (lexeme.Number right) _ refl colon.after in
    let closes = parsed_other text two.left lexeme.CloseBracket rest refl two.after in (
      Some (record { left = left; right = right }),
      parsed_both text tokens (Symbol.other lexeme.OpenBracket ∷ []) _ _ rest opens
          (parsed_both text opens.left (Symbol.other (lexeme.Number left) ∷ []) _ _ rest one
          (parsed_both text one.left (Symbol.other lexeme.Colon ∷ []) _ _ rest colon
          (parsed_both text colon.left (Symbol.other (lexeme.Number right) ∷ []) _ _ rest two closes))),
    )

operand_parsed : (text : List ℕ) (tokens : List Token) {operand rest : List Lexeme} → IsOperand operand rest → operand ≡ map (lexeme_at text) tokens
    → (on : Operand) × Parsed text tokens (operand_symbols on) rest
operand_parsed text tokens (grammar.IsOperand.name {rest}) is =
    let name = parsed_name text tokens rest is in
    (Operand.whole name.0, name.1)
operand_parsed text tokens (grammar.IsOperand.bit {index} {rest}) is =
    let name = parsed_name text tokens _ is in
    let opens = parsed_other text name.1.left lexeme.OpenBracket _ refl name.1.after in
    let one = parsed_other text opens.left (lexeme.Number index) _ refl opens.after in
    let closes = parsed_other text one.left lexeme.CloseBracket rest refl one.after in (
      Operand.bit name.0 index,
      parsed_both text tokens (Symbol.identifier name.0 ∷ []) _ _ rest name.1
          (parsed_both text name.1.left (Symbol.other lexeme.OpenBracket ∷ []) _ _ rest opens
          (parsed_both text opens.left (Symbol.other (lexeme.Number index) ∷ []) _ _ rest one closes)),
    )
operand_parsed text tokens (grammar.IsOperand.constant {value} {rest}) is =
    (Operand.constant value, parsed_other text tokens (lexeme.Constant value) rest refl is)

pin_parsed : (text : List ℕ) (tokens : List Token) {pin rest : List Lexeme} → IsPin pin rest → pin ≡ map (lexeme_at text) tokens
    → (on : Connection) × Parsed text tokens (connection_symbols on) rest
pin_parsed text tokens (grammar.IsPin.open_pin {rest}) is =
    let dot = parsed_other text tokens lexeme.Dot _ refl is in
    let name = parsed_name text dot.left _ dot.after in
    let opens = parsed_other text name.1.left lexeme.Open _ refl name.1.after in
    let closes = parsed_other text opens.left lexeme.Close rest refl opens.after in (
      record { pin = name.0; value = None },
      parsed_both text tokens (Symbol.other lexeme.Dot ∷ []) _ _ rest dot
          (parsed_both text dot.left (Symbol.identifier name.0 ∷ []) _ _ rest name.1
          (parsed_both text name.1.left (Symbol.other lexeme.Open ∷ []) _ _ rest opens closes)),
    )
pin_parsed text tokens (grammar.IsPin.on {operand} {rest} value) is =
    let dot = parsed_other text tokens lexeme.Dot _ refl is in
    let name = parsed_name text dot.left _ dot.after in
    let opens = parsed_other text name.1.left lexeme.Open _ refl name.1.after in
    let on = operand_parsed text opens.left value opens.after in
    let closes = parsed_other text on.1.left lexeme.Close rest refl on.1.after in (
      record { pin = name.0; value = Some on.0 },
      parsed_both text tokens (Symbol.other lexeme.Dot ∷ []) _ _ rest dot
          (parsed_both text dot.left (Symbol.identifier name.0 ∷ []) _ _ rest name.1
          (parsed_both text name.1.left (Symbol.other lexeme.Open ∷ []) _ _ rest opens
          (parsed_both text opens.left (operand_symbols on.0) (Symbol.other lexeme.Close ∷ []) _ rest on.1 closes))),
    )

pins_parsed : (text : List ℕ) (tokens : List Token) {pins rest : List Lexeme} → IsPins pins rest → pins ≡ map (lexeme_at text) tokens
    → (first : Connection) × (more : List Connection) × Parsed text tokens (listed (map connection_symbols (first ∷ more))) rest
pins_parsed text tokens (grammar.IsPins.last {pin} {rest} only) is =
    let on = pin_parsed text tokens only is in
    (on.0, [], subst (λ (symbols : List Symbol). Parsed text tokens symbols rest) (sym (append-nil (connection_symbols on.0))) on.1)
pins_parsed text tokens (grammar.IsPins.more {pin} {pins} {rest} only later) is =
    let on = pin_parsed text tokens only is in
    let comma = parsed_other text on.1.left lexeme.Comma pins refl on.1.after in
    let others = pins_parsed text comma.left later comma.after in (
      on.0,
      others.0 ∷ others.1,
      parsed_both text tokens (connection_symbols on.0) (Symbol.other lexeme.Comma ∷ listed (map connection_symbols (others.0 ∷ others.1))) _ rest on.1
          (parsed_both text on.1.left (Symbol.other lexeme.Comma ∷ []) (listed (map connection_symbols (others.0 ∷ others.1))) _ rest comma others.2),
    )

direction_parsed : {here : Lexeme} → IsDirection here → (way : Direction) × (here ≡ keyword_of way)
direction_parsed grammar.IsDirection.input = (direction.Input, refl)
direction_parsed grammar.IsDirection.output = (direction.Output, refl)
direction_parsed grammar.IsDirection.wire = (direction.Inner, refl)

keyword_other : (way : Direction) → is_name (keyword_of way) ≡ false
keyword_other direction.Input = refl
keyword_other direction.Output = refl
keyword_other direction.Inner = refl

item_parsed : (text : List ℕ) (tokens : List Token) {item rest : List Lexeme} → IsItem item rest → item ≡ map (lexeme_at text) tokens
    → (here : Item) × Parsed text tokens (item_symbols here) rest
item_parsed text tokens (grammar.IsItem.declaration {direction} {range} {names} {rest} way ranged named) is =
    let given = direction_parsed way in
    let keyword = parsed_other text tokens (keyword_of given.0) range (keyword_other given.0) (ap (λ (one : Lexeme). one ∷ range) (sym given.1) ∙ is) in
    let bits = range_parsed text keyword.left ranged keyword.after in
    let listing = names_parsed text bits.1.left named bits.1.after in
    let over = parsed_other text listing.2.left lexeme.Semicolon rest refl listing.2.after in
    let first = parsed_both text tokens (Symbol.other (keyword_of given.0) ∷ []) (range_symbols bits.0) _ _ keyword bits.1 in
    let second = parsed_both text tokens (Symbol.other (keyword_of given.0) ∷ range_symbols bits.0) (listed (map name_symbols (listing.0 ∷ listing.1))) _ _ first listing.2 in (
      Item.declaration (record { direction = given.0; range = bits.0; first = listing.0; more = listing.1 }),
      parsed_both text tokens (Symbol.other (keyword_of given.0) ∷ range_symbols bits.0 ++ listed (map name_symbols (listing.0 ∷ listing.1))) (Symbol.other lexeme.Semicolon ∷ []) _ rest
          second over,
    )
item_parsed text tokens (grammar.IsItem.assign {left} {right} {rest} one two) is =
    let keyword = parsed_other text tokens lexeme.Assign left refl is in
    let first = operand_parsed text keyword.left one keyword.after in
    let equals = parsed_other text first.1.left lexeme.Equals right refl first.1.after in
    let second = operand_parsed text equals.left two equals.after in
    let over = parsed_other text second.1.left lexeme.Semicolon rest refl second.1.after in
    let left_side = parsed_both text tokens (Symbol.other lexeme.Assign ∷ []) (operand_symbols first.0) _ _ keyword first.1 in
    let right_side = parsed_both text first.1.left (Symbol.other lexeme.Equals ∷ []) (operand_symbols second.0) _ _ equals second.1 in
    let both = parsed_both text tokens (Symbol.other lexeme.Assign ∷ operand_symbols first.0) (Symbol.other lexeme.Equals ∷ operand_symbols second.0) _ _ left_side right_side in (
      Item.assign (record { left = first.0; right = second.0 }),
      parsed_both text tokens (Symbol.other lexeme.Assign ∷ operand_symbols first.0 ++ Symbol.other lexeme.Equals ∷ operand_symbols second.0) (Symbol.other lexeme.Semicolon ∷ []) _ rest both over,
    )
item_parsed text tokens (grammar.IsItem.bare {rest}) is =
    let cell = parsed_name text tokens _ is in
    let name = parsed_name text cell.1.left _ cell.1.after in
    let opens = parsed_other text name.1.left lexeme.Open _ refl name.1.after in
    let closes = parsed_other text opens.left lexeme.Close _ refl opens.after in
    let over = parsed_other text closes.left lexeme.Semicolon rest refl closes.after in (
      Item.instance (record { cell = cell.0; name = name.0; connections = [] }),
      parsed_both text tokens (Symbol.identifier cell.0 ∷ []) _ _ rest cell.1
          (parsed_both text cell.1.left (Symbol.identifier name.0 ∷ []) _ _ rest name.1
          (parsed_both text name.1.left (Symbol.other lexeme.Open ∷ []) _ _ rest opens
          (parsed_both text opens.left (Symbol.other lexeme.Close ∷ []) _ _ rest closes over))),
    )
item_parsed text tokens (grammar.IsItem.instance {pins} {rest} connected) is =
    let cell = parsed_name text tokens _ is in
    let name = parsed_name text cell.1.left _ cell.1.after in
    let opens = parsed_other text name.1.left lexeme.Open _ refl name.1.after in
    let on = pins_parsed text opens.left connected opens.after in
    let closes = parsed_other text on.2.left lexeme.Close _ refl on.2.after in
    let over = parsed_other text closes.left lexeme.Semicolon rest refl closes.after in (
      Item.instance (record { cell = cell.0; name = name.0; connections = on.0 ∷ on.1 }),
      parsed_both text tokens (Symbol.identifier cell.0 ∷ []) _ _ rest cell.1
          (parsed_both text cell.1.left (Symbol.identifier name.0 ∷ []) _ _ rest name.1
          (parsed_both text name.1.left (Symbol.other lexeme.Open ∷ []) _ _ rest opens
          (parsed_both text opens.left (listed (map connection_symbols (on.0 ∷ on.1))) (Symbol.other lexeme.Close ∷ Symbol.other lexeme.Semicolon ∷ []) _ rest on.2
          (parsed_both text on.2.left (Symbol.other lexeme.Close ∷ []) _ _ rest closes over)))),
    )

items_parsed : (text : List ℕ) (tokens : List Token) {lexemes rest : List Lexeme} → IsItems lexemes rest → lexemes ≡ map (lexeme_at text) tokens
    → (items : List Item) × Parsed text tokens (flat_map item_symbols items) rest
items_parsed text tokens (grammar.IsItems.none {rest}) is = ([], parsed_none text tokens rest is)
items_parsed text tokens (grammar.IsItems.more {item} {items} {rest} one later) is =
    let here = item_parsed text tokens one is in
    let others = items_parsed text here.1.left later here.1.after in
    (here.0 ∷ others.0, parsed_both text tokens (item_symbols here.0) (flat_map item_symbols others.0) _ rest here.1 others.1)

header_parsed : (text : List ℕ) (tokens : List Token) {header rest : List Lexeme} → IsHeader header rest → header ≡ map (lexeme_at text) tokens
    → (given : Option (List (List ℕ))) × Parsed text tokens (header_symbols given ++ Symbol.other lexeme.Semicolon ∷ []) rest
header_parsed text tokens (grammar.IsHeader.none {rest}) is = (None, parsed_other text tokens lexeme.Semicolon rest refl is)
header_parsed text tokens (grammar.IsHeader.bare {rest}) is =
    let opens = parsed_other text tokens lexeme.Open _ refl is in
    let closes = parsed_other text opens.left lexeme.Close _ refl opens.after in
    let over = parsed_other text closes.left lexeme.Semicolon rest refl closes.after in (
      Some [],
      parsed_both text tokens (Symbol.other lexeme.Open ∷ []) _ _ rest opens
          (parsed_both text opens.left (Symbol.other lexeme.Close ∷ []) _ _ rest closes over),
    )
header_parsed text tokens (grammar.IsHeader.ports {names} {rest} named) is =
    let opens = parsed_other text tokens lexeme.Open _ refl is in
    let listing = names_parsed text opens.left named opens.after in
    let closes = parsed_other text listing.2.left lexeme.Close _ refl listing.2.after in
    let over = parsed_other text closes.left lexeme.Semicolon rest refl closes.after in
    let inside = parsed_both text opens.left (listed (map name_symbols (listing.0 ∷ listing.1))) (Symbol.other lexeme.Close ∷ []) _ _ listing.2 closes in
    let whole = parsed_both text tokens (Symbol.other lexeme.Open ∷ []) (listed (map name_symbols (listing.0 ∷ listing.1)) ++ Symbol.other lexeme.Close ∷ []) _ _ opens inside in
    (Some (listing.0 ∷ listing.1), parsed_both text tokens (header_symbols (Some (listing.0 ∷ listing.1))) (Symbol.other lexeme.Semicolon ∷ []) _ rest whole over)

no_lexemes : (text : List ℕ) (tokens : List Token) → [] ≡ map (lexeme_at text) tokens → map (symbol_at text) tokens ≡ []
no_lexemes text [] is = refl
no_lexemes text (token ∷ tokens) is = absurd cc

regrouped : (head body : List Symbol) (over last : Symbol)
    → (head ++ over ∷ []) ++ (body ++ last ∷ []) ≡ head ++ over ∷ body ++ last ∷ []
regrouped head body over last =
    append_assoc head (over ∷ []) (body ++ last ∷ []) ∙ sym (append_assoc head (over ∷ body) (last ∷ []))

module_whole : (text : List ℕ) (tokens : List Token) (name : List ℕ) (header : Option (List (List ℕ))) (items : List Item)
    → Parsed text tokens (Symbol.other lexeme.Module ∷ Symbol.identifier name ∷ ((header_symbols header ++ Symbol.other lexeme.Semicolon ∷ [])
    ++ (flat_map item_symbols items ++ Symbol.other lexeme.Endmodule ∷ []))) []
    → map (symbol_at text) tokens ≡ module_symbols (record { name = name; header = header; items = items })
module_whole text tokens name header items all =
    all.spelled
    ∙ ap (λ more. (Symbol.other lexeme.Module ∷ Symbol.identifier name ∷ ((header_symbols header ++ Symbol.other lexeme.Semicolon ∷ [])
    ++ (flat_map item_symbols items ++ Symbol.other lexeme.Endmodule ∷ []))) ++ more) (no_lexemes text all.left all.after)
    ∙ append-nil _
    ∙ ap (λ more. Symbol.other lexeme.Module ∷ Symbol.identifier name ∷ more)
    (regrouped (header_symbols header) (flat_map item_symbols items) (Symbol.other lexeme.Semicolon) (Symbol.other lexeme.Endmodule))

-- a module of the grammar is the text of a tree
module_parsed : (text : List ℕ) (tokens : List Token) {lexemes : List Lexeme} → IsModule lexemes → lexemes ≡ map (lexeme_at text) tokens
    → (tree : Module) × (map (symbol_at text) tokens ≡ module_symbols tree)
module_parsed text tokens (grammar.IsModule.module_of {header} {items} first later) is =
    let keyword = parsed_other text tokens lexeme.Module _ refl is in
    let name = parsed_name text keyword.left header keyword.after in
    let head = header_parsed text name.1.left first name.1.after in
    let body = items_parsed text head.1.left later head.1.after in
    let over = parsed_other text body.1.left lexeme.Endmodule [] refl body.1.after in (
      record { name = name.0; header = head.0; items = body.0 },
      module_whole text tokens name.0 head.0 body.0
          (parsed_both text tokens (Symbol.other lexeme.Module ∷ []) _ _ [] keyword
          (parsed_both text keyword.left (Symbol.identifier name.0 ∷ []) _ _ [] name.1
          (parsed_both text name.1.left (header_symbols head.0 ++ Symbol.other lexeme.Semicolon ∷ []) (flat_map item_symbols body.0 ++ Symbol.other lexeme.Endmodule ∷ []) _ [] head.1
          (parsed_both text head.1.left (flat_map item_symbols body.0) (Symbol.other lexeme.Endmodule ∷ []) _ [] body.1 over)))),
    )

pub tree_parsed : (text : List ℕ) (tokens : List Token) → IsModule (map (lexeme_at text) tokens)
    → (tree : Module) × (map (symbol_at text) tokens ≡ module_symbols tree)
tree_parsed text tokens is = module_parsed text tokens is refl
