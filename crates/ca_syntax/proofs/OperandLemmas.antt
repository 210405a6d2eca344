-- Operands and connections are read.
use Rattle.std.proofs.Common.{◌≡◌, ℕ, List, [], ◌∷◌, ◌++◌, map, Bool, true, false, not, Option, Some, None}
use Rattle.std.proofs.Common.{Ok, Err, refl, sym, ap}
use Rattle.std.proofs.Common.{◌∙◌, subst, append_assoc, append-nil}
use Rattle.std.specs.Prelude.{flat_map, is_some, ⊤}
use Rattle.std.specs.List.{All}
use Rattle.std.proofs.lemmas.List.{map-append}
use Rattle.std.proofs.lemmas.List.Elements.{All-head, All-tail}
use Rattle.ca_lex.specs.FirstFault.{steps_from}
use Rattle.ca_lex.specs.Words.{upper_case}
use Rattle.ca_names.specs.Names.{has_name, repeats}
use Rattle.ca_verilog.specs.declared.bus.Bus.{Bus}
use Rattle.ca_verilog.specs.declared.fault.VerilogKind.TheVariants.{Undeclared, DoubleName, BadRange}
use Rattle.ca_verilog.specs.declared.instance.Operand as reader
use Rattle.ca_verilog.specs.declared.instance.Operand.TheVariants as operand
use Rattle.ca_verilog.specs.declared.instance.Use.{Use}
use Rattle.ca_verilog.specs.declared.lexeme.Lexeme.TheVariants as lexeme
use Rattle.ca_verilog.specs.declared.table.Side.{Side}
use Rattle.ca_verilog.specs.declared.table.Side.TheVariants as side
use Rattle.ca_verilog.specs.declared.table.Place.{Place}
use Rattle.ca_verilog.specs.declared.table.Place.TheVariants as place
use Rattle.ca_verilog.specs.declared.table.Range.{Range}
use Rattle.ca_verilog.specs.Bus.{bus_of, range_at}
use Rattle.ca_verilog.specs.Instance.{has_pin}
use Rattle.ca_verilog.specs.Reading.{Hand, Reading, Step, act, at_place, with_hand, with_operand, with_use}
use Rattle.ca_verilog.specs.Reading.{lexeme_step, has_index, is_vector}
use Rattle.ca_verilog.specs.Reading.{bit_in, given_operand}
use Rattle.ca_verilog.specs.Table.{row_of}
use Rattle.ca_verilog.proofs.DistinctLemmas.{or_false}
use Rattle.ca_syntax.specs.Tree.{Operand, Connection, Declared}
use Rattle.ca_syntax.specs.Symbols.{Symbol, listed, operand_symbols, value_symbols, connection_symbols}
use Rattle.ca_syntax.specs.TreeNetlist.{port_of}
use Rattle.ca_syntax.proofs.ReadLemmas.{symbol_step, Reads, nothing_read, then_more, joined}
use Rattle.ca_syntax.proofs.DeclareLemmas.{unbroken}
use Rattle.ca_syntax.proofs.SeenLemmas.{seen_operand, seen_use, IsSeen}

-- the place after an operand
abbrev pub after_operand : Side → Operand → Place
after_operand at (Operand.whole name) = place.NameEnd at
after_operand at (Operand.bit name index) = place.OperandEnd at
after_operand at (Operand.constant value) = place.OperandEnd at

-- a declared name is taken
pub name_step : (at : Side) (name : List ℕ) (it : Reading) (found : ℕ) → bus_of name it.buses ≡ Some found
    → symbol_step (Symbol.identifier name) (at_place (place.Operand at) it) ≡ Ok (at_place (place.NameEnd at) (with_operand (operand.Whole found) it))
unfolding lexeme_step row_of act
name_step at name it found is =
    ap (λ (given : Option ℕ). elim given as (λ _. Step) [ None ↦ Err Undeclared | Some found ↦ Ok (at_place (place.NameEnd at) (with_operand (operand.Whole found) it)) ]) is

-- the `[` after a vector
pub open_step : (at : Side) (it : Reading) (found : ℕ) (range : Range) → range_at found it.buses ≡ Some range
    → symbol_step (Symbol.other lexeme.OpenBracket) (at_place (place.NameEnd at) (with_operand (operand.Whole found) it))
    ≡ Ok (at_place (place.Index at) (with_operand (operand.Whole found) it))
unfolding lexeme_step row_of act
open_step at it found range is =
    unbroken (not (is_some (range_at found it.buses))) BadRange _ _ (ap (λ (given : Option Range). not (is_some given)) is) refl

-- the index of a bit of it
pub index_step : (at : Side) (it : Reading) (found index : ℕ) (range : Range) → range_at found it.buses ≡ Some range
    → has_index index range ≡ true
    → symbol_step (Symbol.other (lexeme.Number index)) (at_place (place.Index at) (with_operand (operand.Whole found) it))
    ≡ Ok (at_place (place.IndexEnd at) (with_operand (operand.Bit found index) it))
unfolding lexeme_step row_of act
index_step at it found index range is inside =
    ap (given_operand (at_place (place.IndexEnd at) (with_operand (operand.Whole found) it)))
    (ap (bit_in found index) is ∙ unbroken (not (has_index index range)) BadRange _ _ (ap not inside) refl)

close_step : (at : Side) (it : Reading)
    → symbol_step (Symbol.other lexeme.CloseBracket) (at_place (place.IndexEnd at) it) ≡ Ok (at_place (place.OperandEnd at) it)
unfolding lexeme_step row_of act
close_step at it = refl

constant_step : (at : Side) (value : Bool) (it : Reading)
    → symbol_step (Symbol.other (lexeme.Constant value)) (at_place (place.Operand at) it)
    ≡ Ok (at_place (place.OperandEnd at) (with_operand (operand.Constant value) it))
unfolding lexeme_step row_of act
constant_step at value it = refl

pub one_symbol : (symbol : Symbol) (it next : Reading) → symbol_step symbol it ≡ Ok next → Reads it (symbol ∷ []) next
one_symbol symbol it next is = then_more symbol [] it next next is (nothing_read next)

-- an operand is read
pub operand_read : (whole : List Declared) (at : Side) (on : Operand) (it : Reading) → IsSeen whole it.buses on
    → Reads (at_place (place.Operand at) it) (operand_symbols on) (at_place (after_operand at on) (with_operand (seen_operand whole on) it))
operand_read whole at (Operand.whole name) it seen = one_symbol _ _ _ (name_step at name it (port_of whole name) seen)
operand_read whole at (Operand.bit name index) it (here, (range, ranged, inside)) =
    then_more _ _ _ _ _ (name_step at name it (port_of whole name) here)
    (then_more _ _ _ _ _ (open_step at it (port_of whole name) range ranged)
    (then_more _ _ _ _ _ (index_step at it (port_of whole name) index range ranged inside)
    (one_symbol _ _ _ (close_step at (with_operand (operand.Bit (port_of whole name) index) it)))))
operand_read whole at (Operand.constant value) it seen = one_symbol _ _ _ (constant_step at value it)

-- an operand on a pin begins as elsewhere
value_begins : (on : Operand) (it : Reading)
    → steps_from symbol_step (at_place place.PinValue it) (operand_symbols on) ≡ steps_from symbol_step (at_place (place.Operand side.Pin) it) (operand_symbols on)
unfolding steps_from lexeme_step row_of act
value_begins (Operand.whole name) it = refl
value_begins (Operand.bit name index) it = refl
value_begins (Operand.constant value) it = refl

-- what is on a pin is of declared names, and no vector as a whole
abbrev pub IsSeenValue : List Declared → List Bus → Option Operand → Type 0
IsSeenValue whole buses None = ⊤
IsSeenValue whole buses (Some on) = IsSeen whole buses on × (is_vector buses (seen_operand whole on) ≡ false)

-- the operand that stays in hand
abbrev operand_after : List Declared → reader.Operand → Option Operand → reader.Operand
operand_after whole old None = old
operand_after whole old (Some on) = seen_operand whole on

-- what is in hand after a connection
abbrev pub hand_after : List Declared → Hand → Connection → Hand
hand_after whole hand it = record hand {
  uses = hand.uses ++ seen_use whole it ∷ [];
  pin = [];
  operand = operand_after whole hand.operand it.value;
}

pub dot_step : (it : Reading) → symbol_step (Symbol.other lexeme.Dot) (at_place place.NextPin it) ≡ Ok (at_place place.PinName it)
unfolding lexeme_step row_of act
dot_step it = refl

pub pin_step : (pin : List ℕ) (it : Reading) → has_pin (upper_case pin) it.hand.uses ≡ false
    → symbol_step (Symbol.identifier pin) (at_place place.PinName it) ≡ Ok (at_place place.PinOpen (with_hand (record it.hand { pin = upper_case pin }) it))
unfolding lexeme_step row_of act
pin_step pin it new = unbroken (has_pin (upper_case pin) it.hand.uses) DoubleName _ _ new refl

pub pin_open_step : (it : Reading) → symbol_step (Symbol.other lexeme.Open) (at_place place.PinOpen it) ≡ Ok (at_place place.PinValue it)
unfolding lexeme_step row_of act
pin_open_step it = refl

pin_read : (pin : List ℕ) (it : Reading) → has_pin (upper_case pin) it.hand.uses ≡ false
    → Reads (at_place place.NextPin it) (Symbol.other lexeme.Dot ∷ Symbol.identifier pin ∷ Symbol.other lexeme.Open ∷ [])
    (at_place place.PinValue (with_hand (record it.hand { pin = upper_case pin }) it))
pin_read pin it new =
    then_more _ _ _ _ _ (dot_step it) (then_more _ _ _ _ _ (pin_step pin it new)
    (one_symbol _ _ _ (pin_open_step (with_hand (record it.hand { pin = upper_case pin }) it))))

-- the `)` after an operand
pub connect_step : (on : Operand) (it : Reading) → is_vector it.buses it.hand.operand ≡ false
    → symbol_step (Symbol.other lexeme.Close) (at_place (after_operand side.Pin on) it) ≡ Ok (at_place place.PinEnd (with_use (Some it.hand.operand) it))
unfolding lexeme_step row_of act
connect_step (Operand.whole name) it scalar = unbroken (is_vector it.buses it.hand.operand) BadRange _ _ scalar refl
connect_step (Operand.bit name index) it scalar = unbroken (is_vector it.buses it.hand.operand) BadRange _ _ scalar refl
connect_step (Operand.constant value) it scalar = unbroken (is_vector it.buses it.hand.operand) BadRange _ _ scalar refl

leave_step : (it : Reading) → symbol_step (Symbol.other lexeme.Close) (at_place place.PinValue it) ≡ Ok (at_place place.PinEnd (with_use None it))
unfolding lexeme_step row_of act
leave_step it = refl

-- what is on a pin is read, with the `)` after it
value_read : (whole : List Declared) (value : Option Operand) (pin : List ℕ) (it : Reading) → IsSeenValue whole it.buses value
    → Reads (at_place place.PinValue (with_hand (record it.hand { pin = upper_case pin }) it)) (value_symbols value ++ Symbol.other lexeme.Close ∷ [])
    (at_place place.PinEnd (with_hand (hand_after whole it.hand (record { pin = pin; value = value })) it))
value_read whole None pin it seen = one_symbol _ _ _ (leave_step (with_hand (record it.hand { pin = upper_case pin }) it))
value_read whole (Some on) pin it (seen, scalar) =
    joined (operand_symbols on) (Symbol.other lexeme.Close ∷ []) _
    (at_place (after_operand side.Pin on) (with_operand (seen_operand whole on) (with_hand (record it.hand { pin = upper_case pin }) it))) _
    (value_begins on (with_hand (record it.hand { pin = upper_case pin }) it)
    ∙ operand_read whole side.Pin on (with_hand (record it.hand { pin = upper_case pin }) it) seen)
    (one_symbol _ _ _ (connect_step on (with_operand (seen_operand whole on) (with_hand (record it.hand { pin = upper_case pin }) it)) scalar))

-- a connection is read
pub connection_read : (whole : List Declared) (on : Connection) (it : Reading) → has_pin (upper_case on.pin) it.hand.uses ≡ false
    → IsSeenValue whole it.buses on.value
    → Reads (at_place place.NextPin it) (connection_symbols on) (at_place place.PinEnd (with_hand (hand_after whole it.hand on) it))
connection_read whole on it new seen =
    joined (Symbol.other lexeme.Dot ∷ Symbol.identifier on.pin ∷ Symbol.other lexeme.Open ∷ []) (value_symbols on.value ++ Symbol.other lexeme.Close ∷ [])
    _ (at_place place.PinValue (with_hand (record it.hand { pin = upper_case on.pin }) it)) _
    (pin_read on.pin it new) (value_read whole on.value on.pin it seen)

-- what is in hand after connections
abbrev pub hands_after : List Declared → Hand → List Connection → Hand
hands_after whole hand [] = hand
hands_after whole hand (on ∷ more) = hands_after whole (hand_after whole hand on) more

-- the names of pins, folded
abbrev pub pins_of : List Connection → List (List ℕ)
pins_of connections = map (λ (on : Connection). upper_case on.pin) connections

abbrev pub used_pins : List Use → List (List ℕ)
used_pins uses = map (λ (used : Use). used.pin) uses

pub comma_step : (it : Reading) → symbol_step (Symbol.other lexeme.Comma) (at_place place.PinEnd it) ≡ Ok (at_place place.NextPin it)
unfolding lexeme_step row_of act
comma_step it = refl

pub pins_grow : (whole : List Declared) (uses : List Use) (on : Connection) (more : List Connection)
    → repeats (used_pins uses ++ upper_case on.pin ∷ []) (pins_of more) ≡ false
    → repeats (used_pins (uses ++ seen_use whole on ∷ [])) (pins_of more) ≡ false
pins_grow whole uses on more is =
    subst (λ (seen : List (List ℕ)). repeats seen (pins_of more) ≡ false) (sym (map-append (λ (used : Use). used.pin) uses (seen_use whole on ∷ []))) is

-- the word is new, and so are those after it
pub first_new : (seen : List (List ℕ)) (word : List ℕ) (words : List (List ℕ)) → repeats seen (word ∷ words) ≡ false
    → (has_name word seen ≡ false) × (repeats (seen ++ word ∷ []) words ≡ false)
unfolding repeats
first_new seen word words is = or_false (has_name word seen) (repeats (seen ++ word ∷ []) words) is

-- further connections are read
more_connections : (whole : List Declared) (connections : List Connection) (hand : Hand) (it : Reading)
    → repeats (used_pins hand.uses) (pins_of connections) ≡ false
    → All (λ (on : Connection). IsSeenValue whole it.buses on.value) connections
    → Reads (at_place place.PinEnd (with_hand hand it)) (flat_map (λ (part : List Symbol). Symbol.other lexeme.Comma ∷ part) (map connection_symbols connections))
    (at_place place.PinEnd (with_hand (hands_after whole hand connections) it))
more_connections whole [] hand it new seen = nothing_read _
more_connections whole (on ∷ more) hand it new seen =
    let fresh = first_new (used_pins hand.uses) (upper_case on.pin) (pins_of more) new in
    joined (Symbol.other lexeme.Comma ∷ connection_symbols on) (flat_map (λ (part : List Symbol). Symbol.other lexeme.Comma ∷ part) (map connection_symbols more))
    _ (at_place place.PinEnd (with_hand (hand_after whole hand on) it)) _
    (then_more _ _ _ _ _ (comma_step (with_hand hand it))
    (connection_read whole on (with_hand hand it) fresh.0 (All-head (λ (on : Connection). IsSeenValue whole it.buses on.value) on more seen)))
    (more_connections whole more (hand_after whole hand on) it (pins_grow whole hand.uses on more fresh.1)
    (All-tail (λ (on : Connection). IsSeenValue whole it.buses on.value) on more seen))

pub first_begins : (on : Connection) (it : Reading)
    → steps_from symbol_step (at_place place.FirstPin it) (connection_symbols on) ≡ steps_from symbol_step (at_place place.NextPin it) (connection_symbols on)
unfolding steps_from lexeme_step row_of act
first_begins on it = refl

-- the place after the connections of an instance
abbrev pub after_connections : List Connection → Place
after_connections [] = place.FirstPin
after_connections (on ∷ more) = place.PinEnd

-- the connections of an instance are read
pub connections_read : (whole : List Declared) (connections : List Connection) (hand : Hand) (it : Reading)
    → repeats (used_pins hand.uses) (pins_of connections) ≡ false
    → All (λ (on : Connection). IsSeenValue whole it.buses on.value) connections
    → Reads (at_place place.FirstPin (with_hand hand it)) (listed (map connection_symbols connections))
    (at_place (after_connections connections) (with_hand (hands_after whole hand connections) it))
connections_read whole [] hand it new seen = nothing_read _
connections_read whole (on ∷ more) hand it new seen =
    let fresh = first_new (used_pins hand.uses) (upper_case on.pin) (pins_of more) new in
    joined (connection_symbols on) (flat_map (λ (part : List Symbol). Symbol.other lexeme.Comma ∷ part) (map connection_symbols more))
    _ (at_place place.PinEnd (with_hand (hand_after whole hand on) it)) _
    (first_begins on (with_hand hand it)
    ∙ connection_read whole on (with_hand hand it) fresh.0 (All-head (λ (on : Connection). IsSeenValue whole it.buses on.value) on more seen))
    (more_connections whole more (hand_after whole hand on) it (pins_grow whole hand.uses on more fresh.1)
    (All-tail (λ (on : Connection). IsSeenValue whole it.buses on.value) on more seen))

-- what the hand has after them
pub record HasInHand (whole : List Declared) (connections : List Connection) (before after : Hand) : Type 0 where
  pub cell : after.cell ≡ before.cell
  pub name : after.name ≡ before.name
  pub uses : after.uses ≡ before.uses ++ map (seen_use whole) connections

pub in_hand : (whole : List Declared) (connections : List Connection) (hand : Hand)
    → HasInHand whole connections hand (hands_after whole hand connections)
in_hand whole [] hand = record { cell = refl; name = refl; uses = sym (append-nil hand.uses) }
in_hand whole (on ∷ more) hand =
    let rest = in_hand whole more (hand_after whole hand on) in
    record {
      cell = rest.cell;
      name = rest.name;
      uses = rest.uses ∙ append_assoc hand.uses (seen_use whole on ∷ []) (map (seen_use whole) more);
    }
