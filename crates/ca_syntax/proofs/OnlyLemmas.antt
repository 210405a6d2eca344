-- Operands, declarations and connections that are read are right.
use Rattle.std.proofs.Common.{◌≡◌, ℕ, ◌==◌, List, [], ◌∷◌, ◌++◌, map, Bool, true, false, not, ◌&&◌, ◌||◌}
use Rattle.std.proofs.Common.{Option, Some, None, Result, Ok, Err}
use Rattle.std.proofs.Common.{refl, sym, ap, ◌∙◌, subst, append_assoc, append-nil, true≢false}
use Rattle.std.specs.Prelude.{is_some, slice_get}
use Rattle.std.specs.List.{All}
use Rattle.std.proofs.lemmas.Bool.{eqb-true}
use Rattle.std.proofs.lemmas.List.{map-append}
use Rattle.std.proofs.lemmas.List.Elements.{All-nil, All-cons}
use Rattle.ca_lex.specs.FirstFault.{steps_from}
use Rattle.ca_lex.specs.Reading.{unless}
use Rattle.ca_lex.specs.Words.{upper_case}
use Rattle.ca_lex.proofs.FirstFaultLemmas.{steps_from-cons, after_step, over}
use Rattle.ca_names.specs.Names.{has_name, repeats}
use Rattle.ca_verilog.specs.declared.bus.Bus.{Bus}
use Rattle.ca_verilog.specs.declared.fault.VerilogKind.{VerilogKind}
use Rattle.ca_verilog.specs.declared.fault.VerilogKind.TheVariants.{Undeclared, DoubleName, BadRange}
use Rattle.ca_verilog.specs.declared.instance.Operand.TheVariants as operand
use Rattle.ca_verilog.specs.declared.instance.Use.{Use}
use Rattle.ca_verilog.specs.declared.lexeme.Lexeme.TheVariants as lexeme
use Rattle.ca_verilog.specs.declared.table.Direction.{Direction}
use Rattle.ca_verilog.specs.declared.table.Direction.TheVariants as direction
use Rattle.ca_verilog.specs.declared.table.Side.{Side}
use Rattle.ca_verilog.specs.declared.table.Side.TheVariants as side
use Rattle.ca_verilog.specs.declared.table.Place.TheVariants as place
use Rattle.ca_verilog.specs.declared.table.Range.{Range}
use Rattle.ca_verilog.specs.Bus.{is_inner, same_range, bus_of, range_at, is_twice, new_bus, again_at, declare}
use Rattle.ca_verilog.specs.Instance.{has_pin}
use Rattle.ca_verilog.specs.Reading.{Hand, Reading, Step, act, at_place, with_hand, with_operand, lexeme_step}
use Rattle.ca_verilog.specs.Reading.{given_buses, given_operand}
use Rattle.ca_verilog.specs.Reading.{bit_in, has_index, is_vector}
use Rattle.ca_verilog.specs.Table.{row_of}
use Rattle.ca_verilog.proofs.PlaceLemmas.{got_map}
use Rattle.ca_syntax.specs.Tree.{Operand, Connection, Declaration, Declared, declared_as}
use Rattle.ca_syntax.specs.Symbols.{Symbol, listed, name_symbols, keyword_of, range_symbols, operand_symbols}
use Rattle.ca_syntax.specs.Symbols.{value_symbols, connection_symbols}
use Rattle.ca_syntax.specs.Names.{names_in, is_declared, is_directed, direction_of, range_of}
use Rattle.ca_syntax.specs.Rules.{is_again, IsRightDeclared, IsRightOperand, IsRightValue, IsScalar}
use Rattle.ca_syntax.specs.Rules.{IsIndexOf}
use Rattle.ca_syntax.specs.TreeNetlist.{port_of}
use Rattle.ca_syntax.proofs.NameLemmas as names
use Rattle.ca_syntax.proofs.ReadLemmas.{symbol_step, Reads}
use Rattle.ca_syntax.proofs.AfterLemmas.{OneByOne}
use Rattle.ca_syntax.proofs.DeclareLemmas.{seen_bus, seen_buses, bus_found, place_seen, declare_right}
use Rattle.ca_syntax.proofs.SeenLemmas.{seen_operand, seen_use, IsFoundIn, found_in, operand_seen, IsSeen}
use Rattle.ca_syntax.proofs.OperandLemmas as operands
use Rattle.ca_syntax.proofs.OperandLemmas.{hand_after, pins_of, used_pins, after_operand}
use Rattle.ca_syntax.proofs.ItemLemmas as items
use Rattle.ca_syntax.proofs.ItemLemmas.{commas, with_declared, after_range}

-- what follows symbols that are read is read
pub rest_read : (before after : List Symbol) (it middle last : Reading) → Reads it before middle → Reads it (before ++ after) last
    → Reads middle after last
rest_read before after it middle last first whole =
    sym (over symbol_step it middle before after (steps_from symbol_step middle after) refl first) ∙ whole

-- what follows a symbol that is read is read
pub next_read : (symbol : Symbol) (more : List Symbol) (it next last : Reading) → symbol_step symbol it ≡ Ok next
    → Reads it (symbol ∷ more) last → Reads next more last
next_read symbol more it next last is whole =
    sym (steps_from-cons symbol_step it symbol more ∙ ap (λ (given : Step). after_step symbol_step given more) is) ∙ whole

-- the first symbol of what is read is taken
pub first_taken : (symbol : Symbol) (more : List Symbol) (it last : Reading) → Reads it (symbol ∷ more) last
    → (next : Reading) × (symbol_step symbol it ≡ Ok next)
first_taken symbol more it last whole = by (symbol_step symbol it) refl (sym (steps_from-cons symbol_step it symbol more) ∙ whole)
  where
    by : (given : Step) → symbol_step symbol it ≡ given → after_step symbol_step given more ≡ Ok last
        → (next : Reading) × (symbol_step symbol it ≡ Ok next)
    by (Ok next) is following = (next, is)
    by (Err kind) is following = absurd cc

-- what is let through breaks no rule
pub passed : {Value : Type 0} (broken : Bool) (kind : VerilogKind) (next : Result Value VerilogKind) (value : Value)
    → unless broken kind next ≡ Ok value → (broken ≡ false) × (next ≡ Ok value)
passed true kind next value is = absurd cc
passed false kind next value is = (refl, is)

pub not_false : (x : Bool) → not x ≡ false → x ≡ true
not_false true is = refl
not_false false is = absurd cc

some_of : {Value : Type 0} (found : Option Value) → is_some found ≡ true → (value : Value) × (found ≡ Some value)
some_of None is = absurd cc
some_of (Some value) is = (value, refl)

none_of : {Value : Type 0} (found : Option Value) → is_some found ≡ false → found ≡ None
none_of None is = refl
none_of (Some value) is = absurd cc

some_same : (one other : ℕ) → ◌≡◌ {A = Option ℕ} (Some one) (Some other) → one ≡ other
some_same one other is = cc

-- a name that is found is declared
declared_only : (name : List ℕ) (declared : List Declared) (found : ℕ) → bus_of name (seen_buses declared) ≡ Some found
    → is_declared name declared ≡ true
declared_only name declared found is = by (is_declared name declared) refl
  where
    by : (has : Bool) → is_declared name declared ≡ has → has ≡ true
    by true reported = refl
    by false reported =
        let none : ◌≡◌ {A = Option ℕ} None (Some found) =
        sym (bus_found name declared ∙ names.no_place name (names_in declared) (names.has_declared name declared ∙ reported)) ∙ is in
        absurd cc

referred : (at : Side) (name : List ℕ) (it next : Reading) → symbol_step (Symbol.identifier name) (at_place (place.Operand at) it) ≡ Ok next
    → (found : ℕ) × (bus_of name it.buses ≡ Some found)
unfolding lexeme_step row_of act
referred at name it next is = by (bus_of name it.buses) refl is
  where
    by : (given : Option ℕ) → bus_of name it.buses ≡ given
        → elim given as (λ _. Step) [ None ↦ Err Undeclared | Some found ↦ Ok (at_place (place.NameEnd at) (with_operand (operand.Whole found) it)) ] ≡ Ok next
        → (found : ℕ) × (bus_of name it.buses ≡ Some found)
    by None reported taken = absurd cc
    by (Some found) reported taken = (found, reported)

opened : (at : Side) (it next : Reading) (found : ℕ)
    → symbol_step (Symbol.other lexeme.OpenBracket) (at_place (place.NameEnd at) (with_operand (operand.Whole found) it)) ≡ Ok next
    → (range : Range) × (range_at found it.buses ≡ Some range)
unfolding lexeme_step row_of act
opened at it next found is =
    some_of (range_at found it.buses) (not_false _ (passed (not (is_some (range_at found it.buses))) BadRange _ next is).0)

indexed : (at : Side) (it next : Reading) (found index : ℕ) (range : Range) → range_at found it.buses ≡ Some range
    → symbol_step (Symbol.other (lexeme.Number index)) (at_place (place.Index at) (with_operand (operand.Whole found) it)) ≡ Ok next
    → has_index index range ≡ true
unfolding lexeme_step row_of act
indexed at it next found index range ranged is =
    by (has_index index range) refl
    (sym (ap (given_operand (at_place (place.IndexEnd at) (with_operand (operand.Whole found) it))) (ap (bit_in found index) ranged)) ∙ is)
  where
    by : (inside : Bool) → has_index index range ≡ inside
        → given_operand (at_place (place.IndexEnd at) (with_operand (operand.Whole found) it)) (unless (not inside) BadRange (Ok (operand.Bit found index))) ≡ Ok next
        → inside ≡ true
    by true reported taken = refl
    by false reported taken = absurd cc

-- an operand that is read is right
pub operand_only : (declared : List Declared) (on : Operand) (at : Side) (it last : Reading) (rest : List Symbol) → it.buses ≡ seen_buses declared
    → Reads (at_place (place.Operand at) it) (operand_symbols on ++ rest) last → IsRightOperand declared on
operand_only declared (Operand.whole name) at it last rest is whole =
    let taken = first_taken _ _ _ _ whole in
    let found = referred at name it taken.0 taken.1 in
    declared_only name declared found.0 (ap (bus_of name) (sym is) ∙ found.1)
operand_only declared (Operand.bit name index) at it last rest is whole =
    let taken = first_taken _ _ _ _ whole in
    let found = referred at name it taken.0 taken.1 in
    let has : is_declared name declared ≡ true = declared_only name declared found.0 (ap (bus_of name) (sym is) ∙ found.1) in
    let following = next_read _ _ _ _ last (operands.name_step at name it found.0 found.1) whole in
    let open_taken = first_taken _ _ _ _ following in
    let range = opened at it open_taken.0 found.0 open_taken.1 in
    let inside = next_read _ _ _ _ last (operands.open_step at it found.0 range.0 range.1) following in
    let index_taken = first_taken _ _ _ _ inside in
    let right : has_index index range.0 ≡ true = indexed at it index_taken.0 found.0 index range.0 range.1 index_taken.1 in
    let known : IsFoundIn declared declared name = found_in declared declared [] name (sym (append-nil declared)) has in
    let same : found.0 ≡ port_of declared name = some_same _ _ (sym found.1 ∙ ap (bus_of name) is ∙ known.here) in
    let ranged : range_of name declared ≡ Some range.0 =
    sym known.range ∙ ap (range_at (port_of declared name)) (sym is) ∙ ap (λ (place : ℕ). range_at place it.buses) (sym same) ∙ range.1 in
    (has, subst (IsIndexOf index) (sym ranged) right)
operand_only declared (Operand.constant value) at it last rest is whole = tt

-- the same on a pin
value_begins : (on : Operand) (it : Reading) (rest : List Symbol)
    → steps_from symbol_step (at_place place.PinValue it) (operand_symbols on ++ rest) ≡ steps_from symbol_step (at_place (place.Operand side.Pin) it) (operand_symbols on ++ rest)
unfolding steps_from lexeme_step row_of act
value_begins (Operand.whole name) it rest = refl
value_begins (Operand.bit name index) it rest = refl
value_begins (Operand.constant value) it rest = refl

connected : (on : Operand) (it next : Reading) → symbol_step (Symbol.other lexeme.Close) (at_place (after_operand side.Pin on) it) ≡ Ok next
    → is_vector it.buses it.hand.operand ≡ false
unfolding lexeme_step row_of act
connected (Operand.whole name) it next is = (passed (is_vector it.buses it.hand.operand) BadRange _ next is).0
connected (Operand.bit name index) it next is = (passed (is_vector it.buses it.hand.operand) BadRange _ next is).0
connected (Operand.constant value) it next is = (passed (is_vector it.buses it.hand.operand) BadRange _ next is).0

scalar_only : (declared : List Declared) (on : Operand) → IsRightOperand declared on → is_vector (seen_buses declared) (seen_operand declared on) ≡ false
    → IsScalar declared on
scalar_only declared (Operand.whole name) right is =
    none_of (range_of name declared) (ap is_some (sym (found_in declared declared [] name (sym (append-nil declared)) right).range) ∙ is)
scalar_only declared (Operand.bit name index) right is = tt
scalar_only declared (Operand.constant value) right is = tt

value_only : (declared : List Declared) (value : Option Operand) (it last : Reading) (rest : List Symbol) → it.buses ≡ seen_buses declared
    → Reads (at_place place.PinValue it) (value_symbols value ++ Symbol.other lexeme.Close ∷ rest) last → IsRightValue declared value
value_only declared None it last rest is whole = tt
value_only declared (Some on) it last rest is whole =
    let begun = sym (value_begins on it (Symbol.other lexeme.Close ∷ rest)) ∙ whole in
    let right : IsRightOperand declared on = operand_only declared on side.Pin it last (Symbol.other lexeme.Close ∷ rest) is begun in
    let seen = subst (λ (buses : List Bus). IsSeen declared buses on) (sym is)
    (operand_seen declared declared [] on (sym (append-nil declared)) right) in
    let following = rest_read (operand_symbols on) (Symbol.other lexeme.Close ∷ rest) _ _ last (operands.operand_read declared side.Pin on it seen) begun in
    let taken = first_taken _ _ _ _ following in
    let scalar = connected on (with_operand (seen_operand declared on) it) taken.0 taken.1 in
    (right, scalar_only declared on right (ap (λ (buses : List Bus). is_vector buses (seen_operand declared on)) (sym is) ∙ scalar))

pinned : (pin : List ℕ) (it next : Reading) → symbol_step (Symbol.identifier pin) (at_place place.PinName it) ≡ Ok next
    → has_pin (upper_case pin) it.hand.uses ≡ false
unfolding lexeme_step row_of act
pinned pin it next is = (passed (has_pin (upper_case pin) it.hand.uses) DoubleName _ next is).0

-- a connection that is read is right, and its pin is new
connection_only : (declared : List Declared) (on : Connection) (it last : Reading) (rest : List Symbol) → it.buses ≡ seen_buses declared
    → Reads (at_place place.NextPin it) (connection_symbols on ++ rest) last
    → (has_pin (upper_case on.pin) it.hand.uses ≡ false) × IsRightValue declared on.value
connection_only declared on it last rest is whole =
    let spread = subst (λ (symbols : List Symbol). Reads (at_place place.NextPin it) symbols last)
    (append_assoc (Symbol.other lexeme.Dot ∷ Symbol.identifier on.pin ∷ Symbol.other lexeme.Open ∷ value_symbols on.value) (Symbol.other lexeme.Close ∷ []) rest) whole in
    let named = next_read _ _ _ _ last (operands.dot_step it) spread in
    let taken = first_taken _ _ _ _ named in
    let new = pinned on.pin it taken.0 taken.1 in
    let opens = next_read _ _ _ _ last (operands.pin_step on.pin it new) named in
    let value = next_read _ _ _ _ last (operands.pin_open_step (with_hand (record it.hand { pin = upper_case on.pin }) it)) opens in
    (new, value_only declared on.value (with_hand (record it.hand { pin = upper_case on.pin }) it) last rest is value)

-- a right value, as the reading sees it
value_right : (declared : List Declared) (value : Option Operand) → IsRightValue declared value → operands.IsSeenValue declared (seen_buses declared) value
value_right declared None right = tt
value_right declared (Some (Operand.whole name)) (right, scalar) = (
  operand_seen declared declared [] (Operand.whole name) (sym (append-nil declared)) right,
  ap is_some ((found_in declared declared [] name (sym (append-nil declared)) right).range ∙ scalar),
)
value_right declared (Some (Operand.bit name index)) (right, scalar) =
    (operand_seen declared declared [] (Operand.bit name index) (sym (append-nil declared)) right, refl)
value_right declared (Some (Operand.constant value)) (right, scalar) = (tt, refl)

pub new_first : (seen : List (List ℕ)) (word : List ℕ) (words : List (List ℕ)) → has_name word seen ≡ false → repeats (seen ++ word ∷ []) words ≡ false
    → repeats seen (word ∷ words) ≡ false
unfolding repeats
new_first seen word words new more = λ j. (new j) || (more j)

pub none_new : (seen : List (List ℕ)) → repeats seen [] ≡ false
unfolding repeats
none_new seen = refl

grown_pins : (declared : List Declared) (uses : List Use) (on : Connection) (more : List Connection)
    → repeats (used_pins (uses ++ seen_use declared on ∷ [])) (pins_of more) ≡ false
    → repeats (used_pins uses ++ upper_case on.pin ∷ []) (pins_of more) ≡ false
grown_pins declared uses on more is =
    subst (λ (seen : List (List ℕ)). repeats seen (pins_of more) ≡ false) (map-append (λ (used : Use). used.pin) uses (seen_use declared on ∷ [])) is

-- connections that are read are right
abbrev pub AreRightOn : List Declared → List (List ℕ) → List Connection → Type 0
AreRightOn declared seen connections = (repeats seen (pins_of connections) ≡ false)
    × All (λ (on : Connection). IsRightValue declared on.value) connections

one_more : (declared : List Declared) (hand : Hand) (on : Connection) (more : List Connection)
    → (has_pin (upper_case on.pin) hand.uses ≡ false) × IsRightValue declared on.value
    → AreRightOn declared (used_pins (hand_after declared hand on).uses) more → AreRightOn declared (used_pins hand.uses) (on ∷ more)
one_more declared hand on more one others = (
  new_first (used_pins hand.uses) (upper_case on.pin) (pins_of more) one.0 (grown_pins declared hand.uses on more others.0),
  All-cons (λ (on : Connection). IsRightValue declared on.value) on more one.1 others.1,
)

more_only : (declared : List Declared) (connections : List Connection) (hand : Hand) (it last : Reading) (rest : List Symbol) → it.buses ≡ seen_buses declared
    → Reads (at_place place.PinEnd (with_hand hand it)) (commas (map connection_symbols connections) ++ rest) last
    → AreRightOn declared (used_pins hand.uses) connections
more_only declared [] hand it last rest is whole = (none_new (used_pins hand.uses), All-nil (λ (on : Connection). IsRightValue declared on.value))
more_only declared (on ∷ more) hand it last rest is whole =
    let spread = subst (λ (symbols : List Symbol). Reads (at_place place.PinEnd (with_hand hand it)) symbols last)
    (append_assoc (Symbol.other lexeme.Comma ∷ connection_symbols on) (commas (map connection_symbols more)) rest) whole in
    let here = next_read _ _ _ _ last (operands.comma_step (with_hand hand it)) spread in
    let right = connection_only declared on (with_hand hand it) last (commas (map connection_symbols more) ++ rest) is here in
    let seen = subst (λ (buses : List Bus). operands.IsSeenValue declared buses on.value) (sym is) (value_right declared on.value right.1) in
    let following = rest_read (connection_symbols on) (commas (map connection_symbols more) ++ rest) _ _ last
    (operands.connection_read declared on (with_hand hand it) right.0 seen) here in
    one_more declared hand on more right (more_only declared more (hand_after declared hand on) it last rest is following)

begins_with : (on : Connection) (it : Reading) (rest : List Symbol)
    → steps_from symbol_step (at_place place.FirstPin it) (connection_symbols on ++ rest) ≡ steps_from symbol_step (at_place place.NextPin it) (connection_symbols on ++ rest)
unfolding steps_from lexeme_step row_of act
begins_with on it rest = refl

pub connections_only : (declared : List Declared) (connections : List Connection) (hand : Hand) (it last : Reading) (rest : List Symbol) → it.buses ≡ seen_buses declared
    → Reads (at_place place.FirstPin (with_hand hand it)) (listed (map connection_symbols connections) ++ rest) last
    → AreRightOn declared (used_pins hand.uses) connections
connections_only declared [] hand it last rest is whole = (none_new (used_pins hand.uses), All-nil (λ (on : Connection). IsRightValue declared on.value))
connections_only declared (on ∷ more) hand it last rest is whole =
    let spread = subst (λ (symbols : List Symbol). Reads (at_place place.FirstPin (with_hand hand it)) symbols last)
    (append_assoc (connection_symbols on) (commas (map connection_symbols more)) rest) whole in
    let here = sym (begins_with on (with_hand hand it) (commas (map connection_symbols more) ++ rest)) ∙ spread in
    let right = connection_only declared on (with_hand hand it) last (commas (map connection_symbols more) ++ rest) is here in
    let seen = subst (λ (buses : List Bus). operands.IsSeenValue declared buses on.value) (sym is) (value_right declared on.value right.1) in
    let following = rest_read (connection_symbols on) (commas (map connection_symbols more) ++ rest) _ _ last
    (operands.connection_read declared on (with_hand hand it) right.0 seen) here in
    one_more declared hand on more right (more_only declared more (hand_after declared hand on) it last rest is following)

-- the range is the same
range_only : (one other : Option Range) → same_range one other ≡ true → one ≡ other
range_only None None is = refl
range_only None (Some other) is = absurd cc
range_only (Some one) None is = absurd cc
range_only (Some one) (Some other) is =
    let both = both_true (one.left == other.left) (one.right == other.right) is in
    λ j. Some (record { left = eqb-true one.left other.left both.0 j; right = eqb-true one.right other.right both.1 j })
  where
    both_true : (x y : Bool) → (x && y) ≡ true → (x ≡ true) × (y ≡ true)
    both_true true y is = (refl, is)
    both_true false y is = absurd cc

known_only : (inner has : Bool) → (not inner && not has) ≡ false → inner ≡ false → has ≡ true
known_only true has is outer = absurd cc
known_only false has is outer = not_false has is

undirected_only : (before : List Declared) (name : List ℕ) → not (is_inner (direction_of name before)) ≡ false → is_directed name before ≡ false
undirected_only before name is = by (is_directed name before) refl
  where
    by : (has : Bool) → is_directed name before ≡ has → has ≡ false
    by false reported = refl
    by true reported = absurd (true≢false (ap not (sym (names.directed_outer name before reported)) ∙ is))

-- a first declaration of a name is none again
fresh : (before : List Declared) (way : Direction) (range : Option Range) (name : List ℕ) → is_declared name before ≡ false
    → is_again before (declared_as way range name) ≡ false
fresh before direction.Inner range name is = names.not_wire name before is
fresh before direction.Input range name is = names.not_directed name before is
fresh before direction.Output range name is = names.not_directed name before is

once_only : (before : List Declared) (way : Direction) (range : Option Range) (name : List ℕ) → is_twice way (seen_bus before name) ≡ false
    → is_again before (declared_as way range name) ≡ false
once_only before direction.Inner range name is = is
once_only before direction.Input range name is = undirected_only before name is
once_only before direction.Output range name is = undirected_only before name is

-- a declaration that is taken is right
declare_only : (ports : List (List ℕ)) (before : List Declared) (way : Direction) (range : Option Range) (name : List ℕ) (buses : List Bus)
    → declare way range name ports (seen_buses before) ≡ Ok buses → IsRightDeclared ports before (declared_as way range name)
unfolding declare
declare_only ports before way range name buses taken =
    let first = passed (not (is_inner way) && not (has_name name ports)) Undeclared _ buses taken in
    by (is_declared name before) refl (known_only (is_inner way) (has_name name ports) first.0) first.1
  where
    by : (has : Bool) → is_declared name before ≡ has → (is_inner way ≡ false → has_name name ports ≡ true)
        → elim (bus_of name (seen_buses before)) as (λ _. Result (List Bus) VerilogKind) [
          | None ↦ Ok (seen_buses before ++ new_bus way range name ∷ [])
          | Some place ↦ again_at way range (seen_buses before) place (slice_get (seen_buses before) place)
        ] ≡ Ok buses → IsRightDeclared ports before (declared_as way range name)
    by false is known following = record {
      of_header = known;
      once = fresh before way range name is;
      same_range = λ other. absurd (true≢false (sym other ∙ is));
    }
    by true is known following =
        let found = place_seen name before is in
        let again : again_at way range (seen_buses before) found.0 (Some (seen_bus before name)) ≡ Ok buses =
        sym (ap (λ (place : Option ℕ). elim place as (λ _. Result (List Bus) VerilogKind) [
          | None ↦ Ok (seen_buses before ++ new_bus way range name ∷ [])
          | Some place ↦ again_at way range (seen_buses before) place (slice_get (seen_buses before) place)
        ]) (bus_found name before ∙ found.2)
        ∙ ap (again_at way range (seen_buses before) found.0) (got_map (seen_bus before) (names_in before) found.0 name found.1)) ∙ following in
        let second = passed (is_twice way (seen_bus before name)) DoubleName _ buses again in
        let third = passed (not (same_range range (range_of name before))) BadRange _ buses second.1 in
        record {
          of_header = known;
          once = once_only before way range name second.0;
          same_range = λ other. range_only range (range_of name before) (not_false (same_range range (range_of name before)) third.0);
        }

given : (it next : Reading) (given : Result (List Bus) VerilogKind) → given_buses it given ≡ Ok next → (buses : List Bus) × (given ≡ Ok buses)
given it next (Ok buses) is = (buses, refl)
given it next (Err kind) is = absurd cc

named : (way : Direction) (range : Option Range) (name : List ℕ) (it next : Reading)
    → symbol_step (Symbol.identifier name) (at_place (place.Declared way range) it) ≡ Ok next
    → (buses : List Bus) × (declare way range name it.ports it.buses ≡ Ok buses)
unfolding lexeme_step row_of act
named way range name it next is = given (at_place (place.DeclaredEnd way range) it) next (declare way range name it.ports it.buses) is

first_named : (way : Direction) (range : Option Range) (name : List ℕ) (it next : Reading)
    → symbol_step (Symbol.identifier name) (at_place (after_range way range) it) ≡ Ok next
    → (buses : List Bus) × (declare way range name it.ports it.buses ≡ Ok buses)
unfolding lexeme_step row_of act
first_named way None name it next is = given (at_place (place.DeclaredEnd way None) it) next (declare way None name it.ports it.buses) is
first_named way (Some range) name it next is =
    given (at_place (place.DeclaredEnd way (Some range)) it) next (declare way (Some range) name it.ports it.buses) is

names_only : (way : Direction) (range : Option Range) (listed : List (List ℕ)) (before : List Declared) (it last : Reading) (rest : List Symbol)
    → Reads (at_place (place.DeclaredEnd way range) (with_declared before it)) (commas (map name_symbols listed) ++ rest) last
    → OneByOne (IsRightDeclared it.ports) before (map (declared_as way range) listed)
names_only way range [] before it last rest whole = tt
names_only way range (name ∷ listed) before it last rest whole =
    let here = next_read _ _ _ _ last (items.declared_comma way range (with_declared before it)) whole in
    let taken = first_taken _ _ _ _ here in
    let buses = named way range name (with_declared before it) taken.0 taken.1 in
    let right = declare_only it.ports before way range name buses.0 buses.1 in
    let following = next_read _ _ _ _ last (items.name_step way range name (with_declared before it) _ (declare_right it.ports before way range name right)) here in
    (right, names_only way range listed (before ++ declared_as way range name ∷ []) it last rest following)

-- a declaration that is read is right
pub declaration_only : (here : Declaration) (before : List Declared) (it last : Reading) (rest : List Symbol)
    → Reads (at_place place.Item (with_declared before it))
    ((Symbol.other (keyword_of here.direction) ∷ range_symbols here.range ++ listed (map name_symbols (here.first ∷ here.more)) ++ Symbol.other lexeme.Semicolon ∷ []) ++ rest) last
    → OneByOne (IsRightDeclared it.ports) before (map (declared_as here.direction here.range) (here.first ∷ here.more))
declaration_only here before it last rest whole =
    let way = here.direction in
    let range = here.range in
    let spread = subst (λ (symbols : List Symbol). Reads (at_place place.Item (with_declared before it)) symbols last)
    (append_assoc (Symbol.other (keyword_of way) ∷ range_symbols range ++ listed (map name_symbols (here.first ∷ here.more))) (Symbol.other lexeme.Semicolon ∷ []) rest
    ∙ append_assoc (Symbol.other (keyword_of way) ∷ range_symbols range) (listed (map name_symbols (here.first ∷ here.more))) (Symbol.other lexeme.Semicolon ∷ rest)) whole in
    let ranged = next_read _ _ _ _ last (items.keyword_step way (with_declared before it)) spread in
    let named = rest_read (range_symbols range) _ _ _ last (items.range_read way range (with_declared before it)) ranged in
    let taken = first_taken _ _ _ _ named in
    let buses = first_named way range here.first (with_declared before it) taken.0 taken.1 in
    let right = declare_only it.ports before way range here.first buses.0 buses.1 in
    let following = next_read _ _ _ _ last (items.first_step way range here.first (with_declared before it) _ (declare_right it.ports before way range here.first right)) named in
    (right, names_only way range here.more (before ++ declared_as way range here.first ∷ []) it last (Symbol.other lexeme.Semicolon ∷ rest) following)
