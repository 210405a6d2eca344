-- A text is read as its symbols are.
use Rattle.std.proofs.Common.{◌≡◌, ℕ, List, [], ◌∷◌, ◌++◌, map, Bool, true, false, Result, Ok, Err, refl, sym}
use Rattle.std.proofs.Common.{ap, ◌∙◌}
use Rattle.ca_lex.specs.declared.token.Token.{Token}
use Rattle.ca_lex.specs.FirstFault.{steps_from, located}
use Rattle.ca_lex.proofs.FirstFaultLemmas.{steps_from-cons, after_step, located_value, over}
use Rattle.ca_token.specs.Scan.{text_of}
use Rattle.ca_verilog.specs.declared.fault.VerilogFault.{VerilogFault}
use Rattle.ca_verilog.specs.declared.lexeme.Lexeme.{Lexeme}
use Rattle.ca_verilog.specs.declared.lexeme.Lexeme.TheVariants as lexeme
use Rattle.ca_verilog.specs.declared.table.Side.TheVariants as side
use Rattle.ca_verilog.specs.declared.table.Place.{Place}
use Rattle.ca_verilog.specs.declared.table.Place.TheVariants as place
use Rattle.ca_verilog.specs.declared.table.Action.{Action}
use Rattle.ca_verilog.specs.declared.table.Action.TheVariants as action
use Rattle.ca_verilog.specs.Lexeme.{name_of}
use Rattle.ca_verilog.specs.Module.{lexeme_at}
use Rattle.ca_verilog.specs.Reading.{Reading, Step, act, at_place, lexeme_step}
use Rattle.ca_verilog.specs.Table.{Move, row_of}
use Rattle.ca_verilog.specs.Text.{token_step, at_token, tokens_from}
use Rattle.ca_syntax.specs.Symbols.{Symbol, symbol_of, symbol_at}

-- what a symbol makes of what was read
abbrev pub symbol_step : Symbol → Reading → Step
symbol_step (Symbol.identifier name) it = lexeme_step lexeme.Name name it
symbol_step (Symbol.other lexeme) it = lexeme_step lexeme [] it

-- the symbols are read, and make this of what was read before
abbrev pub Reads : Reading → List Symbol → Reading → Type 0
Reads it symbols next = steps_from symbol_step it symbols ≡ Ok next

pub nothing_read : (it : Reading) → Reads it [] it
unfolding steps_from
nothing_read it = refl

-- one symbol, and then more
pub then_more : (symbol : Symbol) (more : List Symbol) (it next last : Reading) → symbol_step symbol it ≡ Ok next → Reads next more last
    → Reads it (symbol ∷ more) last
then_more symbol more it next last is later =
    steps_from-cons symbol_step it symbol more ∙ ap (λ (given : Step). after_step symbol_step given more) is ∙ later

-- symbols, and then more
pub joined : (before after : List Symbol) (it middle last : Reading) → Reads it before middle → Reads middle after last
    → Reads it (before ++ after) last
joined before after it middle last first second = over symbol_step it middle before after (Ok last) second first

-- the action needs the name of its token
abbrev needs_name : Action → Bool
needs_name action.AddPort = true
needs_name (action.Declare direction range) = true
needs_name action.TakeCell = true
needs_name action.TakeInstance = true
needs_name action.TakePin = true
needs_name action.Refer = true
needs_name other = false

abbrev needs : Move → Bool
needs (Err kind) = false
needs (Ok row) = needs_name row.action

abbrev is_name : Lexeme → Bool
is_name lexeme.Name = true
is_name other = false

-- what another token does needs no name
nameless : (at : Place) (here : Lexeme) → is_name here ≡ false → needs (row_of at here) ≡ false
unfolding row_of
nameless at lexeme.Name is = absurd cc
nameless place.Start other is = refl
nameless place.ModuleName other is = refl
nameless place.Header other is = refl
nameless place.FirstPort other is = refl
nameless place.Port other is = refl
nameless place.PortEnd other is = refl
nameless place.HeaderEnd other is = refl
nameless place.Item other is = refl
nameless place.End other is = refl
nameless (place.Declaration direction) other is = refl
nameless (place.RangeLeft direction) other is = refl
nameless (place.RangeColon direction left) other is = refl
nameless (place.RangeRight direction left) other is = refl
nameless (place.RangeEnd direction range) other is = refl
nameless (place.Declared direction range) other is = refl
nameless (place.DeclaredEnd direction range) other is = refl
nameless (place.Operand at) other is = refl
nameless (place.NameEnd side.Left) other is = refl
nameless (place.NameEnd side.Right) other is = refl
nameless (place.NameEnd side.Pin) other is = refl
nameless (place.Index at) other is = refl
nameless (place.IndexEnd at) other is = refl
nameless (place.OperandEnd side.Left) other is = refl
nameless (place.OperandEnd side.Right) other is = refl
nameless (place.OperandEnd side.Pin) other is = refl
nameless place.InstanceName other is = refl
nameless place.Pins other is = refl
nameless place.FirstPin other is = refl
nameless place.NextPin other is = refl
nameless place.PinName other is = refl
nameless place.PinOpen other is = refl
nameless place.PinValue other is = refl
nameless place.PinEnd other is = refl
nameless place.InstanceEnd other is = refl

same_action : (done : Action) (one other : List ℕ) (it : Reading) → needs_name done ≡ false → act done one it ≡ act done other it
unfolding act
same_action action.AddPort one other it is = absurd cc
same_action (action.Declare direction range) one other it is = absurd cc
same_action action.TakeCell one other it is = absurd cc
same_action action.TakeInstance one other it is = absurd cc
same_action action.TakePin one other it is = absurd cc
same_action action.Refer one other it is = absurd cc
same_action rest one other it is = refl

same_move : (move : Move) (one other : List ℕ) (it : Reading) → needs move ≡ false
    → elim move as (λ _. Step) [ Err kind ↦ Err kind | Ok row ↦ act row.action one (at_place row.place it) ]
    ≡ elim move as (λ _. Step) [ Err kind ↦ Err kind | Ok row ↦ act row.action other (at_place row.place it) ]
same_move (Err kind) one other it is = refl
same_move (Ok row) one other it is = same_action row.action one other (at_place row.place it) is

same_step : (here : Lexeme) (one other : List ℕ) (it : Reading) → is_name here ≡ false → lexeme_step here one it ≡ lexeme_step here other it
unfolding lexeme_step
same_step here one other it is = same_move (row_of it.place here) one other it (nameless it.place here is)

-- a symbol does what its token does
symbol_does : (here : Lexeme) (name : List ℕ) (it : Reading) → symbol_step (symbol_of here name) it ≡ lexeme_step here name it
symbol_does lexeme.Name name it = refl
symbol_does here name it = same_step here [] name it refl

-- tokens are read as their symbols are
pub tokens_read : (text : List ℕ) (tokens : List Token) (it last : Reading) → Reads it (map (symbol_at text) tokens) last
    → tokens_from text it tokens ≡ Ok last
unfolding steps_from
tokens_read text [] it last read = by_value it last read
  where
    by_value : (it last : Reading) → ◌≡◌ {A = Step} (Ok it) (Ok last) → ◌≡◌ {A = Result Reading VerilogFault} (Ok it) (Ok last)
    by_value it last is =
        let same : it ≡ last = cc in
        ap (λ (one : Reading). Ok one) same
tokens_read text (token ∷ tokens) it last read =
    by (symbol_step (symbol_at text token) it) refl (λ next. tokens_read text tokens next last)
    (sym (steps_from-cons symbol_step it (symbol_at text token) (map (symbol_at text) tokens)) ∙ read)
  where
    by : (given : Step) → symbol_step (symbol_at text token) it ≡ given
        → ((next : Reading) → Reads next (map (symbol_at text) tokens) last → tokens_from text next tokens ≡ Ok last)
        → after_step symbol_step given (map (symbol_at text) tokens) ≡ Ok last → tokens_from text it (token ∷ tokens) ≡ Ok last
    by (Err kind) is later following = absurd cc
    by (Ok next) is later following =
        let taken : token_step text token it ≡ Ok next =
        sym (symbol_does (lexeme_at text token) (name_of token.kind (text_of token text)) it) ∙ is in
        steps_from-cons (located (at_token text) (token_step text)) it token tokens
        ∙ ap (λ (step : Result Reading VerilogFault). after_step (located (at_token text) (token_step text)) step tokens)
        (located_value (at_token text) (token_step text) token it next taken)
        ∙ later next following

-- symbols are read as their tokens are
pub symbols_read : (text : List ℕ) (tokens : List Token) (it last : Reading) → tokens_from text it tokens ≡ Ok last
    → Reads it (map (symbol_at text) tokens) last
unfolding steps_from
symbols_read text [] it last read = by_value it last read
  where
    by_value : (it last : Reading) → ◌≡◌ {A = Result Reading VerilogFault} (Ok it) (Ok last) → ◌≡◌ {A = Step} (Ok it) (Ok last)
    by_value it last is =
        let same : it ≡ last = cc in
        ap (λ (one : Reading). Ok one) same
symbols_read text (token ∷ tokens) it last read =
    by (token_step text token it) refl (λ next. symbols_read text tokens next last)
    (sym (steps_from-cons (located (at_token text) (token_step text)) it token tokens) ∙ read)
  where
    by : (given : Step) → token_step text token it ≡ given
        → ((next : Reading) → tokens_from text next tokens ≡ Ok last → Reads next (map (symbol_at text) tokens) last)
        → after_step (located (at_token text) (token_step text))
        (elim given as (λ _. Result Reading VerilogFault) [ Ok next ↦ Ok next | Err kind ↦ Err (at_token text token kind) ]) tokens ≡ Ok last
        → Reads it (symbol_at text token ∷ map (symbol_at text) tokens) last
    by (Err kind) is later following = absurd cc
    by (Ok next) is later following =
        then_more (symbol_at text token) (map (symbol_at text) tokens) it next last
        (symbol_does (lexeme_at text token) (name_of token.kind (text_of token text)) it ∙ is) (later next following)
