-- A module of the grammar breaks no rule but those on names and ranges.
use Rattle.std.proofs.Common.{◌≡◌, ℕ, List, Bool, true, false, not, ◌&&◌, [], ◌∷◌, ◌++◌, map}
use Rattle.std.proofs.Common.{Option, Some, None, Result, Ok, Err, refl, sym, ap, ◌∙◌, subst, inl, inr}
use Rattle.std.proofs.Common.{true≢false}
use Rattle.std.specs.Prelude.{slice_get, slice_set, ◌==◌}
use Rattle.std.specs.List.{list_all}
use Rattle.std.proofs.lemmas.List.{map-append}
use Rattle.ca_lex.specs.FirstFault.{steps_from}
use Rattle.ca_lex.specs.Reading.{unless}
use Rattle.ca_lex.proofs.FirstFaultLemmas.{steps_from-cons, after_step}
use Rattle.ca_lex.specs.Words.{upper_case}
use Rattle.ca_names.specs.Names.{has_name}
use Rattle.ca_token.specs.declared.fault.Flaw.{Flaw}
use Rattle.ca_token.specs.Scan.{scan_of}
use Rattle.ca_verilog.specs.declared.bus.Bus.{Bus}
use Rattle.ca_verilog.specs.declared.fault.VerilogKind.{VerilogKind}
use Rattle.ca_verilog.specs.declared.fault.VerilogKind.TheVariants.{Undeclared, DoubleName, BadRange}
use Rattle.ca_verilog.specs.declared.instance.Operand.{Operand}
use Rattle.ca_verilog.specs.declared.instance.Operand.TheVariants.{Whole, Bit, Constant}
use Rattle.ca_verilog.specs.declared.lexeme.Lexeme.{Lexeme}
use Rattle.ca_verilog.specs.declared.table.Direction.{Direction}
use Rattle.ca_verilog.specs.declared.table.Range.{Range}
use Rattle.ca_verilog.specs.declared.table.Place.{Place}
use Rattle.ca_verilog.specs.declared.table.Place.TheVariants as place
use Rattle.ca_verilog.specs.declared.table.Action.{Action}
use Rattle.ca_verilog.specs.declared.table.Action.TheVariants as action
use Rattle.ca_verilog.specs.Bus.{is_inner, same_range, bus_of, is_twice, new_bus, declared_again, again_at}
use Rattle.ca_verilog.specs.Bus.{declare, has_direction, range_at}
use Rattle.ca_verilog.specs.Instance.{has_pin, has_instance}
use Rattle.ca_verilog.specs.Laws.{IsFirstFaulty, IsOfNames}
use Rattle.ca_verilog.specs.Lexeme.{name_of}
use Rattle.ca_verilog.specs.Module.{lexeme_at, HasModule}
use Rattle.ca_verilog.specs.Path.{led, place_step, places_from}
use Rattle.ca_verilog.specs.Reading.{Reading, Step, nothing, act, given_buses, given_operand, has_index}
use Rattle.ca_verilog.specs.Reading.{bit_in, selected}
use Rattle.ca_verilog.specs.Reading.{with_operand, is_vector, width_of, at_place, lexeme_step}
use Rattle.ca_verilog.specs.Table.{Move, row_of}
use Rattle.ca_verilog.specs.Text.{is_end}
use Rattle.ca_verilog.proofs.ModuleLemmas.{tokens_led}
use Rattle.ca_verilog.proofs.PathLemmas.{module_leads}

-- a rule on names and ranges, or one after it
ruled : {Value : Type 0} (broken : Bool) (rule kind : VerilogKind) (next : Result Value VerilogKind) → IsOfNames rule
    → (next ≡ Err kind → IsOfNames kind) → unless broken rule next ≡ Err kind → IsOfNames kind
ruled true rule kind next is later reported =
    let same : rule ≡ kind = cc in
    subst IsOfNames same is
ruled false rule kind next is later reported = later reported

one_rule : {Value : Type 0} (broken : Bool) (rule kind : VerilogKind) (value : Value) → IsOfNames rule → unless broken rule (Ok value) ≡ Err kind
    → IsOfNames kind
one_rule broken rule kind value is reported = ruled broken rule kind (Ok value) is (λ never. absurd cc) reported

reported_rule : {Value : Type 0} (rule kind : VerilogKind) → IsOfNames rule → ◌≡◌ {A = Result Value VerilogKind} (Err rule) (Err kind) → IsOfNames kind
reported_rule rule kind is reported =
    let same : rule ≡ kind = cc in
    subst IsOfNames same is

again_rule : (direction : Direction) (range : Option Range) (buses : List Bus) (place : ℕ) (found : Option Bus) (kind : VerilogKind)
    → again_at direction range buses place found ≡ Err kind → IsOfNames kind
again_rule direction range buses place None kind reported = reported_rule Undeclared kind tt reported
again_rule direction range buses place (Some bus) kind reported =
    ruled (is_twice direction bus) DoubleName kind _ tt
    (λ following. one_rule (not (same_range range bus.range)) BadRange kind (slice_set buses place (declared_again direction bus)) tt following) reported

declare_rule : (direction : Direction) (range : Option Range) (name : List ℕ) (ports : List (List ℕ)) (buses : List Bus) (kind : VerilogKind)
    → declare direction range name ports buses ≡ Err kind → IsOfNames kind
unfolding declare
declare_rule direction range name ports buses kind reported =
    ruled (not (is_inner direction) && not (has_name name ports)) Undeclared kind _ tt (by (bus_of name buses)) reported
  where
    by : (found : Option ℕ) → elim found as (λ _. Result (List Bus) VerilogKind) [
      | None ↦ Ok (buses ++ new_bus direction range name ∷ [])
      | Some place ↦ again_at direction range buses place (slice_get buses place)
    ] ≡ Err kind → IsOfNames kind
    by None following = absurd cc
    by (Some place) following = again_rule direction range buses place (slice_get buses place) kind following

buses_rule : (it : Reading) (given : Result (List Bus) VerilogKind) (kind : VerilogKind) → (given ≡ Err kind → IsOfNames kind)
    → given_buses it given ≡ Err kind → IsOfNames kind
buses_rule it (Ok buses) kind later reported = absurd cc
buses_rule it (Err other) kind later reported =
    let same : other ≡ kind = cc in
    later (ap (λ (k : VerilogKind). Err k) same)

operand_rule : (it : Reading) (given : Result Operand VerilogKind) (kind : VerilogKind) → (given ≡ Err kind → IsOfNames kind)
    → given_operand it given ≡ Err kind → IsOfNames kind
operand_rule it (Ok operand) kind later reported = absurd cc
operand_rule it (Err other) kind later reported =
    let same : other ≡ kind = cc in
    later (ap (λ (k : VerilogKind). Err k) same)

bit_rule : (at index : ℕ) (range : Option Range) (kind : VerilogKind) → bit_in at index range ≡ Err kind → IsOfNames kind
bit_rule at index None kind reported = reported_rule BadRange kind tt reported
bit_rule at index (Some range) kind reported = one_rule (not (has_index index range)) BadRange kind (Bit at index) tt reported

selected_rule : (buses : List Bus) (operand : Operand) (index : ℕ) (kind : VerilogKind) → selected buses operand index ≡ Err kind → IsOfNames kind
selected_rule buses (Whole at) index kind reported = bit_rule at index (range_at at buses) kind reported
selected_rule buses (Bit at other) index kind reported = reported_rule BadRange kind tt reported
selected_rule buses (Constant value) index kind reported = reported_rule BadRange kind tt reported

referred_rule : (it : Reading) (found : Option ℕ) (kind : VerilogKind)
    → elim found as (λ _. Step) [ None ↦ Err Undeclared | Some place ↦ Ok (with_operand (Whole place) it) ] ≡ Err kind → IsOfNames kind
referred_rule it None kind reported = reported_rule Undeclared kind tt reported
referred_rule it (Some at) kind reported = absurd cc

-- what an action refuses breaks a rule on names and ranges
act_rule : (done : Action) (name : List ℕ) (it : Reading) (kind : VerilogKind) → act done name it ≡ Err kind → IsOfNames kind
unfolding act
act_rule action.Nothing name it kind reported = absurd cc
act_rule action.AddPort name it kind reported = one_rule (has_name name it.ports) DoubleName kind _ tt reported
act_rule (action.Declare direction range) name it kind reported =
    buses_rule it (declare direction range name it.ports it.buses) kind (declare_rule direction range name it.ports it.buses kind) reported
act_rule action.Close name it kind reported = one_rule (not (list_all (has_direction it.buses) it.ports)) Undeclared kind it tt reported
act_rule action.TakeCell name it kind reported = absurd cc
act_rule action.TakeInstance name it kind reported = one_rule (has_instance name it.instances) DoubleName kind _ tt reported
act_rule action.TakePin name it kind reported = one_rule (has_pin (upper_case name) it.hand.uses) DoubleName kind _ tt reported
act_rule action.Refer name it kind reported = referred_rule it (bus_of name it.buses) kind reported
act_rule action.OpenIndex name it kind reported = one_rule (not (is_vector it.buses it.hand.operand)) BadRange kind it tt reported
act_rule (action.Select index) name it kind reported =
    operand_rule it (selected it.buses it.hand.operand index) kind (selected_rule it.buses it.hand.operand index kind) reported
act_rule (action.TakeConstant value) name it kind reported = absurd cc
act_rule action.LeaveOpen name it kind reported = absurd cc
act_rule action.Connect name it kind reported = one_rule (is_vector it.buses it.hand.operand) BadRange kind _ tt reported
act_rule action.KeepLeft name it kind reported = absurd cc
act_rule action.Join name it kind reported =
    one_rule (not (width_of it.buses it.hand.left == width_of it.buses it.hand.operand)) BadRange kind _ tt reported
act_rule action.EndInstance name it kind reported = absurd cc

move_rule : (move : Move) (name : List ℕ) (it : Reading) (kind : VerilogKind) (at : Place) → led move ≡ Ok at
    → elim move as (λ _. Step) [ Err kind ↦ Err kind | Ok row ↦ act row.action name (at_place row.place it) ] ≡ Err kind → IsOfNames kind
move_rule (Err other) name it kind at leads reported = absurd cc
move_rule (Ok row) name it kind at leads reported = act_rule row.action name (at_place row.place it) kind reported

-- a token that the table lets through breaks no other rule
step_rule : (lexeme : Lexeme) (name : List ℕ) (it : Reading) (kind : VerilogKind) (at : Place) → place_step lexeme it.place ≡ Ok at
    → lexeme_step lexeme name it ≡ Err kind → IsOfNames kind
unfolding lexeme_step
step_rule lexeme name it kind at leads reported = move_rule (row_of it.place lexeme) name it kind at leads reported

led_first : (lexeme : Lexeme) (more : List Lexeme) (from last : Place) → places_from from (lexeme ∷ more) ≡ Ok last
    → (at : Place) × (place_step lexeme from ≡ Ok at) × (places_from at more ≡ Ok last)
led_first lexeme more from last leads = by (place_step lexeme from) refl (sym (steps_from-cons place_step from lexeme more) ∙ leads)
  where
    by : (given : Result Place VerilogKind) → place_step lexeme from ≡ given → after_step place_step given more ≡ Ok last
        → (at : Place) × (place_step lexeme from ≡ Ok at) × (places_from at more ≡ Ok last)
    by (Ok at) is following = (at, is, following)
    by (Err kind) is following = absurd cc

led_after : (before more : List Lexeme) (from middle last : Place) → places_from from before ≡ Ok middle
    → places_from from (before ++ more) ≡ Ok last → places_from middle more ≡ Ok last
unfolding steps_from
led_after [] more from middle last first whole =
    let same : from ≡ middle = cc in
    subst (λ (at : Place). places_from at more ≡ Ok last) same whole
led_after (lexeme ∷ before) more from middle last first whole =
    let one = led_first lexeme before from middle first in
    let two = led_first lexeme (before ++ more) from last whole in
    let same : one.0 ≡ two.0 = ok_same one.0 two.0 (sym one.1 ∙ two.1) in
    led_after before more two.0 middle last (subst (λ (at : Place). places_from at before ≡ Ok middle) same one.2) two.2
  where
    ok_same : (one two : Place) → ◌≡◌ {A = Result Place VerilogKind} (Ok one) (Ok two) → one ≡ two
    ok_same one two is = cc

-- the first fault of a module of the grammar breaks a rule on names and ranges
pub names_alone : (text : List ℕ) (line : ℕ) (kind : VerilogKind) → HasModule text → IsFirstFaulty text line kind → IsOfNames kind
names_alone text line kind has (inl it) =
    let leads : places_from place.Start (map (lexeme_at text) (scan_of text).tokens) ≡ Ok place.End = module_leads has.in_grammar in
    let parts : map (lexeme_at text) (scan_of text).tokens ≡ map (lexeme_at text) it.before ++ map (lexeme_at text) (it.here ∷ it.after) =
    ap (map (lexeme_at text)) it.whole ∙ map-append (lexeme_at text) it.before (it.here ∷ it.after) in
    let here = led_first (lexeme_at text it.here) (map (lexeme_at text) it.after) it.so_far.place place.End
    (led_after (map (lexeme_at text) it.before) (map (lexeme_at text) (it.here ∷ it.after)) place.Start it.so_far.place place.End
    (tokens_led text it.before nothing it.so_far it.read)
    (sym (ap (places_from place.Start) parts) ∙ leads)) in
    step_rule (lexeme_at text it.here) (name_of it.here.kind _) it.so_far kind here.0 here.1 it.broken
names_alone text line kind has (inr (inl it)) = absurd (none_some it.flaw (sym has.whole ∙ it.found))
  where
    none_some : (flaw : Flaw) → ◌≡◌ {A = Option Flaw} None (Some flaw) → ⊥
    none_some flaw is = cc
names_alone text line kind has (inr (inr it)) =
    let leads : places_from place.Start (map (lexeme_at text) (scan_of text).tokens) ≡ Ok place.End = module_leads has.in_grammar in
    let over : it.so_far.place ≡ place.End =
    ok_same it.so_far.place place.End (sym (tokens_led text (scan_of text).tokens nothing it.so_far it.read) ∙ leads) in
    absurd (true≢false (sym (ap is_end over) ∙ it.early))
  where
    ok_same : (one two : Place) → ◌≡◌ {A = Result Place VerilogKind} (Ok one) (Ok two) → one ≡ two
    ok_same one two is = cc
