-- Items are read.
use Rattle.std.proofs.Common.{◌≡◌, ℕ, ◌==◌, List, [], ◌∷◌, ◌++◌, map, false, not, Option, Some, None, Ok}
use Rattle.std.proofs.Common.{refl, sym, ap}
use Rattle.std.proofs.Common.{◌∙◌, append_assoc, append-nil}
use Rattle.std.specs.Prelude.{flat_map}
use Rattle.std.specs.List.{All}
use Rattle.std.proofs.lemmas.Bool.{eq-eqb}
use Rattle.ca_lex.specs.FirstFault.{steps_from}
use Rattle.ca_lex.specs.Words.{upper_case}
use Rattle.ca_names.specs.Names.{repeats}
use Rattle.ca_verilog.specs.declared.bus.Bus.{Bus}
use Rattle.ca_verilog.specs.declared.fault.VerilogKind.TheVariants.{DoubleName, BadRange}
use Rattle.ca_verilog.specs.declared.lexeme.Lexeme.TheVariants as lexeme
use Rattle.ca_verilog.specs.declared.table.Direction.{Direction}
use Rattle.ca_verilog.specs.declared.table.Direction.TheVariants as direction
use Rattle.ca_verilog.specs.declared.table.Side.TheVariants as side
use Rattle.ca_verilog.specs.declared.table.Place.{Place}
use Rattle.ca_verilog.specs.declared.table.Place.TheVariants as place
use Rattle.ca_verilog.specs.declared.table.Range.{Range}
use Rattle.ca_verilog.specs.Bus.{declare}
use Rattle.ca_verilog.specs.Instance.{has_instance}
use Rattle.ca_verilog.specs.Reading.{Hand, Reading, act, at_place, with_buses, with_hand, with_operand}
use Rattle.ca_verilog.specs.Reading.{lexeme_step, given_buses}
use Rattle.ca_verilog.specs.Reading.{keep_left, width_of as reader_width, end_instance}
use Rattle.ca_verilog.specs.Table.{row_of}
use Rattle.ca_syntax.specs.Tree.{Operand, Connection, Declaration, Assign, Instance, Declared, declared_as}
use Rattle.ca_syntax.specs.Symbols.{Symbol, listed, name_symbols, keyword_of, range_symbols, operand_symbols}
use Rattle.ca_syntax.specs.Symbols.{connection_symbols}
use Rattle.ca_syntax.specs.Rules.{EachAfter, IsRightDeclared}
use Rattle.ca_syntax.proofs.ReadLemmas.{symbol_step, Reads, nothing_read, then_more, joined}
use Rattle.ca_syntax.proofs.DeclareLemmas.{unbroken, seen_buses, declare_right}
use Rattle.ca_syntax.proofs.SeenLemmas.{seen_operand, seen_join, seen_instance, IsSeen}
use Rattle.ca_syntax.proofs.OperandLemmas.{after_operand, operand_read, one_symbol, IsSeenValue, hands_after}
use Rattle.ca_syntax.proofs.OperandLemmas.{pins_of, after_connections}
use Rattle.ca_syntax.proofs.OperandLemmas.{connections_read, HasInHand, in_hand}

-- names that are declared further on
abbrev pub commas : List (List Symbol) → List Symbol
commas parts = flat_map (λ (part : List Symbol). Symbol.other lexeme.Comma ∷ part) parts

-- the reading with these names
abbrev pub with_declared : List Declared → Reading → Reading
with_declared declared it = with_buses (seen_buses declared) it

pub keyword_step : (way : Direction) (it : Reading) → symbol_step (Symbol.other (keyword_of way)) (at_place place.Item it) ≡ Ok (at_place (place.Declaration way) it)
unfolding lexeme_step row_of act
keyword_step direction.Input it = refl
keyword_step direction.Output it = refl
keyword_step direction.Inner it = refl

-- where the first name of a declaration is
abbrev pub after_range : Direction → Option Range → Place
after_range way None = place.Declaration way
after_range way (Some range) = place.Declared way (Some range)

pub range_read : (way : Direction) (range : Option Range) (it : Reading)
    → Reads (at_place (place.Declaration way) it) (range_symbols range) (at_place (after_range way range) it)
unfolding steps_from lexeme_step row_of act
range_read way None it = refl
range_read way (Some range) it = refl

pub declared_comma : (way : Direction) (range : Option Range) (it : Reading)
    → symbol_step (Symbol.other lexeme.Comma) (at_place (place.DeclaredEnd way range) it) ≡ Ok (at_place (place.Declared way range) it)
unfolding lexeme_step row_of act
declared_comma way range it = refl

pub declared_over : (way : Direction) (range : Option Range) (it : Reading)
    → symbol_step (Symbol.other lexeme.Semicolon) (at_place (place.DeclaredEnd way range) it) ≡ Ok (at_place place.Item it)
unfolding lexeme_step row_of act
declared_over way range it = refl

pub name_step : (way : Direction) (range : Option Range) (name : List ℕ) (it : Reading) (buses : List Bus)
    → declare way range name it.ports it.buses ≡ Ok buses
    → symbol_step (Symbol.identifier name) (at_place (place.Declared way range) it) ≡ Ok (at_place (place.DeclaredEnd way range) (with_buses buses it))
unfolding lexeme_step row_of act
name_step way range name it buses is = ap (given_buses (at_place (place.DeclaredEnd way range) it)) is

pub first_step : (way : Direction) (range : Option Range) (name : List ℕ) (it : Reading) (buses : List Bus)
    → declare way range name it.ports it.buses ≡ Ok buses
    → symbol_step (Symbol.identifier name) (at_place (after_range way range) it) ≡ Ok (at_place (place.DeclaredEnd way range) (with_buses buses it))
unfolding lexeme_step row_of act
first_step way None name it buses is = ap (given_buses (at_place (place.DeclaredEnd way None) it)) is
first_step way (Some range) name it buses is = ap (given_buses (at_place (place.DeclaredEnd way (Some range)) it)) is

more_names : (whole : List Declared) (way : Direction) (range : Option Range) (names : List (List ℕ)) (before later : List Declared) (it : Reading)
    → EachAfter (IsRightDeclared it.ports) whole → whole ≡ before ++ (map (declared_as way range) names ++ later)
    → Reads (at_place (place.DeclaredEnd way range) (with_declared before it)) (commas (map name_symbols names))
    (at_place (place.DeclaredEnd way range) (with_declared (before ++ map (declared_as way range) names) it))
more_names whole way range [] before later it right is =
    nothing_read _ ∙ ap (λ (all : List Declared). Ok (at_place (place.DeclaredEnd way range) (with_declared all it))) (sym (append-nil before))
more_names whole way range (name ∷ names) before later it right is =
    joined (Symbol.other lexeme.Comma ∷ name_symbols name) (commas (map name_symbols names)) _
    (at_place (place.DeclaredEnd way range) (with_declared (before ++ declared_as way range name ∷ []) it)) _
    (then_more _ _ _ _ _ (declared_comma way range (with_declared before it))
    (one_symbol _ _ _ (name_step way range name (with_declared before it) _
    (declare_right it.ports before way range name (right before (declared_as way range name) (map (declared_as way range) names ++ later) is)))))
    (more_names whole way range names (before ++ declared_as way range name ∷ []) later it right
    (is ∙ sym (append_assoc before (declared_as way range name ∷ []) (map (declared_as way range) names ++ later)))
    ∙ ap (λ (all : List Declared). Ok (at_place (place.DeclaredEnd way range) (with_declared all it)))
    (append_assoc before (declared_as way range name ∷ []) (map (declared_as way range) names)))

-- a declaration is read
pub declaration_read : (whole : List Declared) (here : Declaration) (before later : List Declared) (it : Reading)
    → EachAfter (IsRightDeclared it.ports) whole
    → whole ≡ before ++ (map (declared_as here.direction here.range) (here.first ∷ here.more) ++ later)
    → Reads (at_place place.Item (with_declared before it))
    (Symbol.other (keyword_of here.direction) ∷ range_symbols here.range ++ listed (map name_symbols (here.first ∷ here.more)) ++ Symbol.other lexeme.Semicolon ∷ [])
    (at_place place.Item (with_declared (before ++ map (declared_as here.direction here.range) (here.first ∷ here.more)) it))
declaration_read whole here before later it right is =
    let one : Declared = declared_as here.direction here.range here.first in
    let rest : List Declared = map (declared_as here.direction here.range) here.more in
    joined (Symbol.other (keyword_of here.direction) ∷ range_symbols here.range ++ listed (map name_symbols (here.first ∷ here.more)))
    (Symbol.other lexeme.Semicolon ∷ []) _
    (at_place (place.DeclaredEnd here.direction here.range) (with_declared (before ++ map (declared_as here.direction here.range) (here.first ∷ here.more)) it)) _
    (joined (Symbol.other (keyword_of here.direction) ∷ range_symbols here.range) (listed (map name_symbols (here.first ∷ here.more))) _
    (at_place (after_range here.direction here.range) (with_declared before it)) _
    (then_more _ _ _ _ _ (keyword_step here.direction (with_declared before it)) (range_read here.direction here.range (with_declared before it)))
    (then_more _ _ _ _ _ (first_step here.direction here.range here.first (with_declared before it) _
    (declare_right it.ports before here.direction here.range here.first (right before one (rest ++ later) is)))
    (more_names whole here.direction here.range here.more (before ++ one ∷ []) later it right
    (is ∙ sym (append_assoc before (one ∷ []) (rest ++ later)))
    ∙ ap (λ (all : List Declared). Ok (at_place (place.DeclaredEnd here.direction here.range) (with_declared all it)))
    (append_assoc before (one ∷ []) rest))))
    (one_symbol _ _ _ (declared_over here.direction here.range (with_declared (before ++ map (declared_as here.direction here.range) (here.first ∷ here.more)) it)))

pub assign_step : (it : Reading) → symbol_step (Symbol.other lexeme.Assign) (at_place place.Item it) ≡ Ok (at_place (place.Operand side.Left) it)
unfolding lexeme_step row_of act
assign_step it = refl

pub equals_step : (left : Operand) (it : Reading)
    → symbol_step (Symbol.other lexeme.Equals) (at_place (after_operand side.Left left) it) ≡ Ok (at_place (place.Operand side.Right) (keep_left it))
unfolding lexeme_step row_of act
equals_step (Operand.whole name) it = refl
equals_step (Operand.bit name index) it = refl
equals_step (Operand.constant value) it = refl

-- the reading with one `assign` more
abbrev pub with_join : List Declared → Assign → Reading → Reading
with_join whole here it = record it { joins = it.joins ++ seen_join whole here ∷ [] }

-- both sides in hand
abbrev pub with_sides : List Declared → Assign → Reading → Reading
with_sides whole here it =
    with_operand (seen_operand whole here.right) (keep_left (with_operand (seen_operand whole here.left) it))

pub join_closes : (right : Operand) (it : Reading)
    → not (reader_width it.buses it.hand.left == reader_width it.buses it.hand.operand) ≡ false
    → symbol_step (Symbol.other lexeme.Semicolon) (at_place (after_operand side.Right right) it)
    ≡ Ok (at_place place.Item (record it { joins = it.joins ++ record { left = it.hand.left; right = it.hand.operand } ∷ [] }))
unfolding lexeme_step row_of act
join_closes (Operand.whole name) it equal = unbroken _ BadRange _ _ equal refl
join_closes (Operand.bit name index) it equal = unbroken _ BadRange _ _ equal refl
join_closes (Operand.constant value) it equal = unbroken _ BadRange _ _ equal refl

join_step : (whole : List Declared) (here : Assign) (it : Reading)
    → reader_width it.buses (seen_operand whole here.left) ≡ reader_width it.buses (seen_operand whole here.right)
    → symbol_step (Symbol.other lexeme.Semicolon) (at_place (after_operand side.Right here.right) (with_sides whole here it))
    ≡ Ok (at_place place.Item (with_join whole here (with_sides whole here it)))
join_step whole here it same = join_closes here.right (with_sides whole here it) (ap not (eq-eqb _ _ same))

-- an `assign` is read
pub assign_read : (whole : List Declared) (here : Assign) (it : Reading) → IsSeen whole it.buses here.left → IsSeen whole it.buses here.right
    → reader_width it.buses (seen_operand whole here.left) ≡ reader_width it.buses (seen_operand whole here.right)
    → Reads (at_place place.Item it)
    (Symbol.other lexeme.Assign ∷ operand_symbols here.left ++ Symbol.other lexeme.Equals ∷ operand_symbols here.right ++ Symbol.other lexeme.Semicolon ∷ [])
    (at_place place.Item (with_join whole here (with_sides whole here it)))
assign_read whole here it left right same =
    joined (Symbol.other lexeme.Assign ∷ operand_symbols here.left ++ Symbol.other lexeme.Equals ∷ operand_symbols here.right) (Symbol.other lexeme.Semicolon ∷ []) _
    (at_place (after_operand side.Right here.right) (with_sides whole here it)) _
    (joined (Symbol.other lexeme.Assign ∷ operand_symbols here.left) (Symbol.other lexeme.Equals ∷ operand_symbols here.right) _
    (at_place (after_operand side.Left here.left) (with_operand (seen_operand whole here.left) it)) _
    (then_more _ _ _ _ _ (assign_step it) (operand_read whole side.Left here.left it left))
    (then_more _ _ _ _ _ (equals_step here.left (with_operand (seen_operand whole here.left) it))
    (operand_read whole side.Right here.right (keep_left (with_operand (seen_operand whole here.left) it)) right)))
    (one_symbol _ _ _ (join_step whole here it same))

pub cell_step : (cell : List ℕ) (it : Reading)
    → symbol_step (Symbol.identifier cell) (at_place place.Item it) ≡ Ok (at_place place.InstanceName (with_hand (record it.hand { cell = upper_case cell }) it))
unfolding lexeme_step row_of act
cell_step cell it = refl

pub instance_step : (name : List ℕ) (it : Reading) → has_instance name it.instances ≡ false
    → symbol_step (Symbol.identifier name) (at_place place.InstanceName it) ≡ Ok (at_place place.Pins (with_hand (record it.hand { name = name; uses = [] }) it))
unfolding lexeme_step row_of act
instance_step name it new = unbroken (has_instance name it.instances) DoubleName _ _ new refl

pub pins_step : (it : Reading) → symbol_step (Symbol.other lexeme.Open) (at_place place.Pins it) ≡ Ok (at_place place.FirstPin it)
unfolding lexeme_step row_of act
pins_step it = refl

pins_over : (connections : List Connection) (it : Reading)
    → symbol_step (Symbol.other lexeme.Close) (at_place (after_connections connections) it) ≡ Ok (at_place place.InstanceEnd it)
unfolding lexeme_step row_of act
pins_over [] it = refl
pins_over (on ∷ more) it = refl

instance_over : (it : Reading) → symbol_step (Symbol.other lexeme.Semicolon) (at_place place.InstanceEnd it) ≡ Ok (at_place place.Item (end_instance it))
unfolding lexeme_step row_of act
instance_over it = refl

-- the hand with the cell and the name of an instance
abbrev pub hand_of : Instance → Hand → Hand
hand_of here hand = record hand { cell = upper_case here.cell; name = here.name; uses = [] }

-- what is in hand after an instance
abbrev pub emptied : Hand → Hand
emptied hand = record hand { cell = []; name = []; uses = [] }

-- the reading with one instance more
abbrev pub with_instance : List Declared → Instance → Hand → Reading → Reading
with_instance whole here hand it = record it { instances = it.instances ++ seen_instance whole here ∷ []; hand = hand }

ended : (whole : List Declared) (here : Instance) (it : Reading) (hand : Hand) → HasInHand whole here.connections (hand_of here it.hand) hand
    → end_instance (with_hand hand it) ≡ with_instance whole here (emptied hand) it
ended whole here it hand has = λ j. record it {
  instances = it.instances ++ record { name = has.name j; cell = has.cell j; uses = has.uses j } ∷ [];
  hand = emptied hand;
}

-- an instance is read
pub instance_read : (whole : List Declared) (here : Instance) (it : Reading) → has_instance here.name it.instances ≡ false
    → repeats [] (pins_of here.connections) ≡ false → All (λ (on : Connection). IsSeenValue whole it.buses on.value) here.connections
    → Reads (at_place place.Item it)
    (Symbol.identifier here.cell ∷ Symbol.identifier here.name ∷ Symbol.other lexeme.Open ∷ listed (map connection_symbols here.connections)
    ++ Symbol.other lexeme.Close ∷ Symbol.other lexeme.Semicolon ∷ [])
    (at_place place.Item (with_instance whole here (emptied (hands_after whole (hand_of here it.hand) here.connections)) it))
instance_read whole here it new different seen =
    let hand : Hand = hands_after whole (hand_of here it.hand) here.connections in
    joined (Symbol.identifier here.cell ∷ Symbol.identifier here.name ∷ Symbol.other lexeme.Open ∷ listed (map connection_symbols here.connections))
    (Symbol.other lexeme.Close ∷ Symbol.other lexeme.Semicolon ∷ []) _
    (at_place (after_connections here.connections) (with_hand hand it)) _
    (then_more _ _ _ _ _ (cell_step here.cell it)
    (then_more _ _ _ _ _ (instance_step here.name (with_hand (record it.hand { cell = upper_case here.cell }) it) new)
    (then_more _ _ _ _ _ (pins_step (with_hand (hand_of here it.hand) it))
    (connections_read whole here.connections (hand_of here it.hand) it different seen))))
    (then_more _ _ _ _ _ (pins_over here.connections (with_hand hand it))
    (one_symbol _ _ _ (instance_over (with_hand hand it)
    ∙ ap (λ (next : Reading). Ok (at_place place.Item next)) (ended whole here it hand (in_hand whole here.connections (hand_of here it.hand))))))
