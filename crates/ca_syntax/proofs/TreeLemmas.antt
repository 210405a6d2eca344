-- A right tree is read.
use Rattle.std.proofs.Common.{◌≡◌, ℕ, List, [], ◌∷◌, ◌++◌, map, Bool, true, false, cond, not, ◌&&◌, Option}
use Rattle.std.proofs.Common.{Some, None, Ok, refl, sym, ap}
use Rattle.std.proofs.Common.{◌∙◌, subst, append_assoc, append-nil}
use Rattle.std.specs.Prelude.{flat_map, is_some, slice_get}
use Rattle.std.specs.List.{All, list_all}
use Rattle.std.proofs.lemmas.List.{map-append}
use Rattle.std.proofs.lemmas.List.Concat.{flat_map-append}
use Rattle.std.proofs.lemmas.List.Elements.{All-head, All-tail, All-weaker}
use Rattle.ca_names.specs.Names.{has_name, repeats, has_double}
use Rattle.ca_verilog.specs.declared.fault.VerilogKind.TheVariants.{Undeclared, DoubleName}
use Rattle.ca_verilog.specs.declared.instance.Instance as placed
use Rattle.ca_verilog.specs.declared.lexeme.Lexeme.TheVariants as lexeme
use Rattle.ca_verilog.specs.declared.table.Place.{Place}
use Rattle.ca_verilog.specs.declared.table.Place.TheVariants as place
use Rattle.ca_verilog.specs.Bus.{has_direction, is_directed as bus_directed}
use Rattle.ca_verilog.specs.Reading.{Hand, Reading, Step, nothing, act, at_place, with_ports, lexeme_step}
use Rattle.ca_verilog.specs.Table.{row_of}
use Rattle.ca_verilog.proofs.PlaceLemmas.{got_map}
use Rattle.ca_syntax.specs.Tree.{Operand, Connection, Assign, Instance, Item, Module, Declared, header_names}
use Rattle.ca_syntax.specs.Tree.{ports_of}
use Rattle.ca_syntax.specs.Tree.{declared_by, declarations, assigned_by, assigns, instance_by, instances}
use Rattle.ca_syntax.specs.Symbols.{Symbol, listed, name_symbols, header_symbols, item_symbols}
use Rattle.ca_syntax.specs.Symbols.{module_symbols}
use Rattle.ca_syntax.specs.Names.{names_in, is_directed}
use Rattle.ca_syntax.specs.Rules.{EachAfter, IsRightDeclared, IsRight, IsRightAssign, IsRightInstance}
use Rattle.ca_syntax.specs.Rules.{IsRightValue}
use Rattle.ca_syntax.proofs.NameLemmas as names
use Rattle.ca_syntax.proofs.ReadLemmas.{symbol_step, Reads, nothing_read, then_more, joined}
use Rattle.ca_syntax.proofs.DeclareLemmas.{unbroken, seen_bus, seen_buses, bus_found, place_seen}
use Rattle.ca_syntax.proofs.SeenLemmas.{seen_join, seen_instance, state, found_in, operand_seen, width_seen}
use Rattle.ca_syntax.proofs.OperandLemmas.{one_symbol, first_new, IsSeenValue, hands_after}
use Rattle.ca_syntax.proofs.ItemLemmas.{commas, declaration_read, assign_read, with_sides, instance_read}
use Rattle.ca_syntax.proofs.ItemLemmas.{hand_of, emptied}

-- a name of the header
port_given : (name : List ℕ) (it : Reading) → has_name name it.ports ≡ false
    → ◌≡◌ {A = Step} (Ok (at_place place.PortEnd (with_ports (cond (has_name name it.ports) it.ports (it.ports ++ name ∷ [])) it)))
    (Ok (at_place place.PortEnd (with_ports (it.ports ++ name ∷ []) it)))
port_given name it new =
    ap (λ (found : Bool). Ok (at_place place.PortEnd (with_ports (cond found it.ports (it.ports ++ name ∷ [])) it))) new

pub port_step : (name : List ℕ) (it : Reading) → has_name name it.ports ≡ false
    → symbol_step (Symbol.identifier name) (at_place place.Port it) ≡ Ok (at_place place.PortEnd (with_ports (it.ports ++ name ∷ []) it))
unfolding lexeme_step row_of act
port_step name it new = unbroken (has_name name it.ports) DoubleName _ _ new (port_given name it new)

pub first_port : (name : List ℕ) (it : Reading) → has_name name it.ports ≡ false
    → symbol_step (Symbol.identifier name) (at_place place.FirstPort it) ≡ Ok (at_place place.PortEnd (with_ports (it.ports ++ name ∷ []) it))
unfolding lexeme_step row_of act
first_port name it new = unbroken (has_name name it.ports) DoubleName _ _ new (port_given name it new)

pub port_comma : (it : Reading) → symbol_step (Symbol.other lexeme.Comma) (at_place place.PortEnd it) ≡ Ok (at_place place.Port it)
unfolding lexeme_step row_of act
port_comma it = refl

more_ports : (listed seen : List (List ℕ)) (it : Reading) → repeats seen listed ≡ false
    → Reads (at_place place.PortEnd (with_ports seen it)) (commas (map name_symbols listed)) (at_place place.PortEnd (with_ports (seen ++ listed) it))
more_ports [] seen it new = nothing_read _ ∙ ap (λ (ports : List (List ℕ)). Ok (at_place place.PortEnd (with_ports ports it))) (sym (append-nil seen))
more_ports (name ∷ listed) seen it new =
    let fresh = first_new seen name listed new in
    joined (Symbol.other lexeme.Comma ∷ name_symbols name) (commas (map name_symbols listed)) _
    (at_place place.PortEnd (with_ports (seen ++ name ∷ []) it)) _
    (then_more _ _ _ _ _ (port_comma (with_ports seen it)) (one_symbol _ _ _ (port_step name (with_ports seen it) fresh.0)))
    (more_ports listed (seen ++ name ∷ []) it fresh.1
    ∙ ap (λ (ports : List (List ℕ)). Ok (at_place place.PortEnd (with_ports ports it))) (append_assoc seen (name ∷ []) listed))

-- the place after the header
abbrev pub after_header : Option (List (List ℕ)) → Place
after_header None = place.Header
after_header (Some names) = place.HeaderEnd

pub header_opens : (it : Reading) → symbol_step (Symbol.other lexeme.Open) (at_place place.Header it) ≡ Ok (at_place place.FirstPort it)
unfolding lexeme_step row_of act
header_opens it = refl

bare_closes : (it : Reading) → symbol_step (Symbol.other lexeme.Close) (at_place place.FirstPort it) ≡ Ok (at_place place.HeaderEnd it)
unfolding lexeme_step row_of act
bare_closes it = refl

header_closes : (it : Reading) → symbol_step (Symbol.other lexeme.Close) (at_place place.PortEnd it) ≡ Ok (at_place place.HeaderEnd it)
unfolding lexeme_step row_of act
header_closes it = refl

pub header_over : (header : Option (List (List ℕ))) (it : Reading)
    → symbol_step (Symbol.other lexeme.Semicolon) (at_place (after_header header) it) ≡ Ok (at_place place.Item it)
unfolding lexeme_step row_of act
header_over None it = refl
header_over (Some names) it = refl

pub header_read : (header : Option (List (List ℕ))) → has_double (header_names header) ≡ false
    → Reads (at_place place.Header nothing) (header_symbols header) (at_place (after_header header) (with_ports (header_names header) nothing))
header_read None new = nothing_read _
header_read (Some []) new = then_more _ _ _ _ _ (header_opens nothing) (one_symbol _ _ _ (bare_closes nothing))
header_read (Some (name ∷ listed)) new =
    let fresh = first_new [] name listed new in
    joined (Symbol.other lexeme.Open ∷ Symbol.identifier name ∷ commas (map name_symbols listed)) (Symbol.other lexeme.Close ∷ []) _
    (at_place place.PortEnd (with_ports (name ∷ listed) nothing)) _
    (then_more _ _ _ _ _ (header_opens nothing) (then_more _ _ _ _ _ (first_port name nothing fresh.0) (more_ports listed (name ∷ []) nothing fresh.1)))
    (one_symbol _ _ _ (header_closes (with_ports (name ∷ listed) nothing)))

-- the reading after these items
abbrev pub following : Module → List Item → Hand → Reading
following tree before hand = state (declarations tree.items) (ports_of tree) (declarations before) (assigns before) (instances before) place.Item hand

pub grown : {Part : Type 0} (give : Item → List Part) (before : List Item) (here : Item)
    → flat_map give before ++ give here ≡ flat_map give (before ++ here ∷ [])
grown give before here =
    ap (λ more. flat_map give before ++ more) (sym (append-nil (give here))) ∙ sym (flat_map-append give before (here ∷ []))

moved : (tree : Module) (before : List Item) (here : Item) (hand : Hand) (declared : List Declared) (assigned : List Assign) (listed : List Instance)
    → declared ≡ declarations before ++ declared_by here → assigned ≡ assigns before ++ assigned_by here
    → listed ≡ instances before ++ instance_by here
    → state (declarations tree.items) (ports_of tree) declared assigned listed place.Item hand ≡ following tree (before ++ here ∷ []) hand
moved tree before here hand declared assigned listed first second third = λ j.
    state (declarations tree.items) (ports_of tree) ((first ∙ grown declared_by before here) j) ((second ∙ grown assigned_by before here) j)
    ((third ∙ grown instance_by before here) j) place.Item hand

-- all declarations, as those before an item and those from it on
pub parted : {Part : Type 0} (give : Item → List Part) (items before after : List Item) (here : Item) → items ≡ before ++ here ∷ after
    → flat_map give items ≡ flat_map give before ++ (give here ++ flat_map give after)
parted give items before after here is = ap (flat_map give) is ∙ flat_map-append give before (here ∷ after)

value_seen : (whole declared later : List Declared) (value : Option Operand) → whole ≡ declared ++ later → IsRightValue declared value
    → IsSeenValue whole (seen_buses declared) value
value_seen whole declared later None is right = tt
value_seen whole declared later (Some (Operand.whole name)) is (right, scalar) =
    (operand_seen whole declared later (Operand.whole name) is right, ap is_some ((found_in whole declared later name is right).range ∙ scalar))
value_seen whole declared later (Some (Operand.bit name index)) is (right, scalar) =
    (operand_seen whole declared later (Operand.bit name index) is right, refl)
value_seen whole declared later (Some (Operand.constant value)) is (right, scalar) = (tt, refl)

-- a name that comes after others differs from them
new_after : (seen before after : List (List ℕ)) (here : List ℕ) → repeats seen (before ++ here ∷ after) ≡ false
    → has_name here (seen ++ before) ≡ false
new_after seen [] after here new = ap (has_name here) (append-nil seen) ∙ (first_new seen here after new).0
new_after seen (first ∷ before) after here new =
    ap (has_name here) (sym (append_assoc seen (first ∷ []) before))
    ∙ new_after (seen ++ first ∷ []) before after here (first_new seen first (before ++ here ∷ after) new).1

pub placed_names : (whole : List Declared) (listed : List Instance)
    → map (λ (it : placed.Instance). it.name) (map (seen_instance whole) listed) ≡ map (λ (it : Instance). it.name) listed
placed_names whole [] = refl
placed_names whole (it ∷ listed) = ap (λ more. it.name ∷ more) (placed_names whole listed)

-- an item that is right given those before it, said for itself
abbrev pub IsNextItem : Module → List Item → Item → Type 0
IsNextItem tree before (Item.declaration here) =
    EachAfter (IsRightDeclared (ports_of tree)) (declarations before ++ declared_by (Item.declaration here))
IsNextItem tree before (Item.assign here) = IsRightAssign (declarations before) here
IsNextItem tree before (Item.instance here) = IsRightInstance (declarations before) here
    × (has_name here.name (map (λ (it : Instance). it.name) (instances before)) ≡ false)

-- an item is read
pub item_read : (tree : Module) (before after : List Item) (here : Item) (hand : Hand) → IsNextItem tree before here → tree.items ≡ before ++ here ∷ after
    → (next : Hand) × Reads (following tree before hand) (item_symbols here) (following tree (before ++ here ∷ []) next)
item_read tree before after (Item.declaration here) hand rule is = (
  hand,
  declaration_read (declarations before ++ declared_by (Item.declaration here)) here (declarations before) [] (following tree before hand) rule
      (ap (λ more. declarations before ++ more) (sym (append-nil (declared_by (Item.declaration here)))))
      ∙ ap (λ (next : Reading). Ok next) (moved tree before (Item.declaration here) hand _ _ _ refl (sym (append-nil (assigns before))) (sym (append-nil (instances before)))),
)
item_read tree before after (Item.assign here) hand rule is =
    let whole : List Declared = declarations tree.items in
    let later : List Declared = declarations after in
    let parts : whole ≡ declarations before ++ later = parted declared_by tree.items before after (Item.assign here) is in (
      (with_sides whole here (following tree before hand)).hand,
      assign_read whole here (following tree before hand)
          (operand_seen whole (declarations before) later here.left parts rule.left_side)
          (operand_seen whole (declarations before) later here.right parts rule.right_side)
          (width_seen whole (declarations before) later here.left parts rule.left_side ∙ rule.same_width
          ∙ sym (width_seen whole (declarations before) later here.right parts rule.right_side))
          ∙ ap (λ (next : Reading). Ok next)
          ((λ j. record (following tree before (with_sides whole here (following tree before hand)).hand) {
            joins = sym (map-append (seen_join whole) (assigns before) (here ∷ [])) j;
          })
          ∙ moved tree before (Item.assign here) _ _ _ _ (sym (append-nil (declarations before))) refl (sym (append-nil (instances before)))),
    )
item_read tree before after (Item.instance here) hand rule is =
    let whole : List Declared = declarations tree.items in
    let later : List Declared = declarations after in
    let parts : whole ≡ declarations before ++ later = parted declared_by tree.items before after (Item.instance here) is in
    let last : Hand = emptied (hands_after whole (hand_of here hand) here.connections) in (
      last,
      instance_read whole here (following tree before hand)
          (ap (has_name here.name) (placed_names whole (instances before)) ∙ rule.1) rule.0.different
          (All-weaker (λ (on : Connection). IsRightValue (declarations before) on.value) (λ (on : Connection). IsSeenValue whole (seen_buses (declarations before)) on.value)
          (λ on. value_seen whole (declarations before) later on.value parts) here.connections rule.0.values)
          ∙ ap (λ (next : Reading). Ok next)
          ((λ j. record (following tree before last) {
            instances = sym (map-append (seen_instance whole) (instances before) (here ∷ [])) j;
          })
          ∙ moved tree before (Item.instance here) last _ _ _ (sym (append-nil (declarations before))) (sym (append-nil (assigns before))) refl),
    )

-- those at the front are right given each other too
front_after : {T : Type 0} (P : List T → T → Type 0) (list front more : List T) → list ≡ front ++ more → EachAfter P list → EachAfter P front
front_after P list front more is right = λ before here after parts.
    right before here (after ++ more) (is ∙ ap (λ one. one ++ more) parts ∙ append_assoc before (here ∷ after) more)

-- the items of a right tree
next_item : (tree : Module) (before after : List Item) (here : Item) → IsRight tree → tree.items ≡ before ++ here ∷ after
    → IsNextItem tree before here
next_item tree before after (Item.declaration here) right is =
    front_after (IsRightDeclared (ports_of tree)) (declarations tree.items) (declarations before ++ declared_by (Item.declaration here)) (declarations after)
    (parted declared_by tree.items before after (Item.declaration here) is
    ∙ sym (append_assoc (declarations before) (declared_by (Item.declaration here)) (declarations after))) right.declared
next_item tree before after (Item.assign here) right is = right.items before (Item.assign here) after is
next_item tree before after (Item.instance here) right is = (
  right.items before (Item.instance here) after is,
  new_after [] (map (λ (it : Instance). it.name) (instances before)) (map (λ (it : Instance). it.name) (instances after)) here.name
      (subst (λ (listed : List (List ℕ)). repeats [] listed ≡ false)
      (ap (map (λ (it : Instance). it.name)) (parted instance_by tree.items before after (Item.instance here) is)
      ∙ map-append (λ (it : Instance). it.name) (instances before) (here ∷ instances after)) right.instances),
)

-- items are read
items_read : (tree : Module) (before items : List Item) (hand : Hand) → IsRight tree → tree.items ≡ before ++ items
    → (last : Hand) × Reads (following tree before hand) (flat_map item_symbols items) (following tree (before ++ items) last)
items_read tree before [] hand right is =
    (hand, nothing_read _ ∙ ap (λ (all : List Item). Ok (following tree all hand)) (sym (append-nil before)))
items_read tree before (here ∷ items) hand right is =
    let one = item_read tree before items here hand (next_item tree before items here right is) is in
    let rest = items_read tree (before ++ here ∷ []) items one.0 right (is ∙ sym (append_assoc before (here ∷ []) items)) in (
      rest.0,
      joined (item_symbols here) (flat_map item_symbols items) _ (following tree (before ++ here ∷ []) one.0) _ one.1
          (rest.1 ∙ ap (λ (all : List Item). Ok (following tree all rest.0)) (append_assoc before (here ∷ []) items)),
    )

port_directed : (name : List ℕ) (declared : List Declared) → is_directed name declared ≡ true → has_direction (seen_buses declared) name ≡ true
port_directed name declared is =
    let found = place_seen name declared (names.directed_declared name declared is) in
    ap (λ (place : Option ℕ). elim place as (λ _. Bool) [ None ↦ false | Some place ↦ bus_directed (slice_get (seen_buses declared) place) ])
    (bus_found name declared ∙ found.2)
    ∙ ap bus_directed (got_map (seen_bus declared) (names_in declared) found.0 name found.1)
    ∙ ap not (names.directed_outer name declared is)

ports_directed : (declared : List Declared) (ports : List (List ℕ)) → All (λ name. is_directed name declared ≡ true) ports
    → list_all (has_direction (seen_buses declared)) ports ≡ true
ports_directed declared [] all = refl
ports_directed declared (name ∷ ports) all = λ j.
    port_directed name declared (All-head (λ name. is_directed name declared ≡ true) name ports all) j
    && ports_directed declared ports (All-tail (λ name. is_directed name declared ≡ true) name ports all) j

end_step : (it : Reading) → list_all (has_direction it.buses) it.ports ≡ true
    → symbol_step (Symbol.other lexeme.Endmodule) (at_place place.Item it) ≡ Ok (at_place place.End it)
unfolding lexeme_step row_of act
end_step it all = unbroken (not (list_all (has_direction it.buses) it.ports)) Undeclared _ _ (ap not all) refl

pub module_step : symbol_step (Symbol.other lexeme.Module) nothing ≡ Ok (at_place place.ModuleName nothing)
unfolding lexeme_step row_of act
module_step = refl

pub title_step : (name : List ℕ) (it : Reading) → symbol_step (Symbol.identifier name) (at_place place.ModuleName it) ≡ Ok (at_place place.Header it)
unfolding lexeme_step row_of act
title_step name it = refl

-- the reading of a whole tree
abbrev pub tree_reading : Module → Hand → Reading
tree_reading tree hand = at_place place.End (following tree tree.items hand)

-- a right tree is read
pub tree_read : (tree : Module) → IsRight tree → (last : Hand) × Reads nothing (module_symbols tree) (tree_reading tree last)
tree_read tree right =
    let items = items_read tree [] tree.items nothing.hand right refl in (
      items.0,
      joined (Symbol.other lexeme.Module ∷ Symbol.identifier tree.name ∷ header_symbols tree.header ++ Symbol.other lexeme.Semicolon ∷ flat_map item_symbols tree.items)
          (Symbol.other lexeme.Endmodule ∷ []) _ (following tree tree.items items.0) _
          (joined (Symbol.other lexeme.Module ∷ Symbol.identifier tree.name ∷ header_symbols tree.header) (Symbol.other lexeme.Semicolon ∷ flat_map item_symbols tree.items) _
          (at_place (after_header tree.header) (with_ports (ports_of tree) nothing)) _
          (then_more _ _ _ _ _ module_step (then_more _ _ _ _ _ (title_step tree.name nothing) (header_read tree.header right.ports)))
          (then_more _ _ _ _ _ (header_over tree.header (with_ports (ports_of tree) nothing)) items.1))
          (one_symbol _ _ _ (end_step (following tree tree.items items.0) (ports_directed (declarations tree.items) (ports_of tree) right.directed))),
    )
