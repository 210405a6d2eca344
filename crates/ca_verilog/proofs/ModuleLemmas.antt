-- A text that is read is a module of the grammar.
use Rattle.std.proofs.Common.{◌≡◌, ℕ, ◌-◌, List, [], ◌∷◌, map, length, Bool, true, false, Option}
use Rattle.std.proofs.Common.{Some, None, Result, Ok, Err, refl, sym, ap, ◌∙◌}
use Rattle.ca_lex.specs.declared.token.Token.{Token}
use Rattle.ca_lex.specs.FirstFault.{steps_from, located}
use Rattle.ca_lex.specs.Reading.{unless}
use Rattle.ca_lex.proofs.FirstFaultLemmas.{steps_from-cons, after_step}
use Rattle.ca_token.specs.declared.fault.Flaw.{Flaw}
use Rattle.ca_token.specs.Scan.{scan_of, line_at}
use Rattle.ca_verilog.specs.declared.bus.Bus.{Bus}
use Rattle.ca_verilog.specs.declared.fault.VerilogKind.{VerilogKind}
use Rattle.ca_verilog.specs.declared.fault.VerilogKind.TheVariants.{Syntax, Undeclared, DoubleName, BadRange}
use Rattle.ca_verilog.specs.declared.fault.VerilogFault.{VerilogFault}
use Rattle.ca_verilog.specs.declared.fault.VerilogFault.TheVariants.{At}
use Rattle.ca_verilog.specs.declared.instance.Operand.{Operand}
use Rattle.ca_verilog.specs.declared.instance.Operand.TheVariants.{Whole}
use Rattle.ca_verilog.specs.declared.lexeme.Lexeme.{Lexeme}
use Rattle.ca_verilog.specs.declared.raw.RawNetlist.{RawNetlist}
use Rattle.ca_verilog.specs.declared.table.Place.{Place}
use Rattle.ca_verilog.specs.declared.table.Place.TheVariants as place
use Rattle.ca_verilog.specs.declared.table.Action.{Action}
use Rattle.ca_verilog.specs.declared.table.Action.TheVariants as action
use Rattle.ca_verilog.specs.Bus.{bus_of, declare}
use Rattle.ca_verilog.specs.Lexeme.{name_of}
use Rattle.ca_verilog.specs.Reading.{Reading, Step, nothing, act, at_place, with_operand, given_buses}
use Rattle.ca_verilog.specs.Reading.{given_operand, selected, lexeme_step}
use Rattle.ca_verilog.specs.Table.{Move, row_of}
use Rattle.ca_verilog.specs.Text.{token_step, at_token, tokens_from, then_flaw, is_end, ended}
use Rattle.ca_verilog.specs.Text.{limited_of, netlist_of}
use Rattle.ca_verilog.specs.Path.{led, place_step, places_from}
use Rattle.ca_verilog.specs.Module.{lexeme_at, HasModule}
use Rattle.ca_verilog.proofs.WayLemmas.{module_way}

-- what a rule lets through
let_through : (broken : Bool) (kind : VerilogKind) (given next : Reading) → unless broken kind (Ok given) ≡ Ok next → given.place ≡ next.place
let_through true kind given next is = absurd cc
let_through false kind given next is =
    let same : given ≡ next = cc in
    ap (λ (it : Reading). it.place) same

same_place : (given next : Reading) → ◌≡◌ {A = Step} (Ok given) (Ok next) → given.place ≡ next.place
same_place given next is =
    let same : given ≡ next = cc in
    ap (λ (it : Reading). it.place) same

buses_given : (it next : Reading) (given : Result (List Bus) VerilogKind) → given_buses it given ≡ Ok next → it.place ≡ next.place
buses_given it next (Ok buses) is = same_place _ next is
buses_given it next (Err kind) is = absurd cc

operand_given : (it next : Reading) (given : Result Operand VerilogKind) → given_operand it given ≡ Ok next → it.place ≡ next.place
operand_given it next (Ok operand) is = same_place _ next is
operand_given it next (Err kind) is = absurd cc

referred : (it next : Reading) (found : Option ℕ)
    → elim found as (λ _. Step) [ None ↦ Err Undeclared | Some place ↦ Ok (with_operand (Whole place) it) ] ≡ Ok next → it.place ≡ next.place
referred it next None is = absurd cc
referred it next (Some place) is = same_place _ next is

-- no action moves the reading in the grammar
pub act_place : (done : Action) (name : List ℕ) (it next : Reading) → act done name it ≡ Ok next → it.place ≡ next.place
unfolding act
act_place action.Nothing name it next is = same_place it next is
act_place action.AddPort name it next is = let_through _ DoubleName _ next is
act_place (action.Declare direction range) name it next is = buses_given it next (declare direction range name it.ports it.buses) is
act_place action.Close name it next is = let_through _ Undeclared it next is
act_place action.TakeCell name it next is = same_place _ next is
act_place action.TakeInstance name it next is = let_through _ DoubleName _ next is
act_place action.TakePin name it next is = let_through _ DoubleName _ next is
act_place action.Refer name it next is = referred it next (bus_of name it.buses) is
act_place action.OpenIndex name it next is = let_through _ BadRange it next is
act_place (action.Select index) name it next is = operand_given it next (selected it.buses it.hand.operand index) is
act_place (action.TakeConstant value) name it next is = same_place _ next is
act_place action.LeaveOpen name it next is = same_place _ next is
act_place action.Connect name it next is = let_through _ BadRange _ next is
act_place action.KeepLeft name it next is = same_place _ next is
act_place action.Join name it next is = let_through _ BadRange _ next is
act_place action.EndInstance name it next is = same_place _ next is

moved : (move : Move) (name : List ℕ) (it next : Reading)
    → elim move as (λ _. Step) [ Err kind ↦ Err kind | Ok row ↦ act row.action name (at_place row.place it) ] ≡ Ok next → led move ≡ Ok next.place
moved (Err kind) name it next is = absurd cc
moved (Ok row) name it next is = ap (λ (at : Place). Ok at) (act_place row.action name (at_place row.place it) next is)

-- a token that is taken goes along its row
pub step_led : (lexeme : Lexeme) (name : List ℕ) (it next : Reading) → lexeme_step lexeme name it ≡ Ok next → place_step lexeme it.place ≡ Ok next.place
unfolding lexeme_step
step_led lexeme name it next is = moved (row_of it.place lexeme) name it next is

led_after : (text : List ℕ) (token : Token) (tokens : List Token) (it last : Reading) (given : Step) → token_step text token it ≡ given
    → ((next : Reading) → tokens_from text next tokens ≡ Ok last → places_from next.place (map (lexeme_at text) tokens) ≡ Ok last.place)
    → after_step (located (at_token text) (token_step text))
    (elim given as (λ _. Result Reading VerilogFault) [ Ok next ↦ Ok next | Err kind ↦ Err (at_token text token kind) ]) tokens ≡ Ok last
    → places_from it.place (map (lexeme_at text) (token ∷ tokens)) ≡ Ok last.place
led_after text token tokens it last (Ok next) is later read =
    steps_from-cons place_step it.place (lexeme_at text token) (map (lexeme_at text) tokens)
    ∙ ap (λ (step : Result Place VerilogKind). after_step place_step step (map (lexeme_at text) tokens))
    (step_led (lexeme_at text token) (name_of token.kind _) it next is) ∙ later next read
led_after text token tokens it last (Err kind) is later read = absurd cc

-- tokens that are read go along the table
pub tokens_led : (text : List ℕ) (tokens : List Token) (it last : Reading) → tokens_from text it tokens ≡ Ok last
    → places_from it.place (map (lexeme_at text) tokens) ≡ Ok last.place
unfolding steps_from
tokens_led text [] it last read = ap (λ (at : Place). Ok at) (by_value it last read)
  where
    by_value : (it last : Reading) → ◌≡◌ {A = Result Reading VerilogFault} (Ok it) (Ok last) → it.place ≡ last.place
    by_value it last is =
        let same : it ≡ last = cc in
        ap (λ (it : Reading). it.place) same
tokens_led text (token ∷ tokens) it last read =
    led_after text token tokens it last (token_step text token it) refl (λ next. tokens_led text tokens next last)
    (sym (steps_from-cons (located (at_token text) (token_step text)) it token tokens) ∙ read)

end_only : (at : Place) → is_end at ≡ true → at ≡ place.End
end_only place.End is = refl
end_only other is = absurd cc

whole_end : (text : List ℕ) (it : Reading) (raw : RawNetlist) → tokens_from text nothing (scan_of text).tokens ≡ Ok it → (scan_of text).flaw ≡ None
    → (is_over : Bool) → is_end it.place ≡ is_over
    → limited_of (elim is_over as (λ _. Result Reading VerilogFault) [ true ↦ Ok it | false ↦ Err (At (line_at (length text - 1) text) Syntax) ]) ≡ Ok raw
    → HasModule text
whole_end text it raw read whole false is reported = absurd cc
whole_end text it raw read whole true is reported = record {
  whole = whole;
  in_grammar = module_way (map (lexeme_at text) (scan_of text).tokens)
      (tokens_led text (scan_of text).tokens nothing it read ∙ ap (λ (at : Place). Ok at) (end_only it.place is));
}

whole_flaw : (text : List ℕ) (it : Reading) (raw : RawNetlist) → tokens_from text nothing (scan_of text).tokens ≡ Ok it
    → (flaw : Option Flaw) → (scan_of text).flaw ≡ flaw → limited_of (ended text (then_flaw text flaw (Ok it))) ≡ Ok raw → HasModule text
whole_flaw text it raw read None whole reported = whole_end text it raw read whole (is_end it.place) refl reported
whole_flaw text it raw read (Some flaw) whole reported = absurd cc

whole_in : (text : List ℕ) (raw : RawNetlist) (given : Result Reading VerilogFault) → tokens_from text nothing (scan_of text).tokens ≡ given
    → limited_of (ended text (then_flaw text (scan_of text).flaw given)) ≡ Ok raw → HasModule text
whole_in text raw (Ok it) read reported = whole_flaw text it raw read (scan_of text).flaw refl reported
whole_in text raw (Err fault) read reported = absurd (no_reading (scan_of text).flaw fault reported)
  where
    no_reading : (flaw : Option Flaw) (fault : VerilogFault) → limited_of (ended text (then_flaw text flaw (Err fault))) ≡ Ok raw → ⊥
    no_reading None fault is = cc
    no_reading (Some flaw) fault is = cc

-- a text with a netlist is a module of the grammar
pub in_grammar : (text : List ℕ) (raw : RawNetlist) → netlist_of text ≡ Ok raw → HasModule text
in_grammar text raw reported = whole_in text raw (tokens_from text nothing (scan_of text).tokens) refl reported
