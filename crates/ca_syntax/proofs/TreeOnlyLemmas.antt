-- A tree that is read is right.
use Rattle.std.proofs.Common.{◌≡◌, ℕ, ◌==◌, List, [], ◌∷◌, ◌++◌, map, Bool, true, false, not, ◌&&◌, Option}
use Rattle.std.proofs.Common.{Some, None, Ok}
use Rattle.std.proofs.Common.{refl, sym, ap, ◌∙◌, subst, append_assoc, append-nil, true≢false}
use Rattle.std.specs.Prelude.{flat_map, slice_get}
use Rattle.std.specs.List.{All, list_all}
use Rattle.std.proofs.lemmas.Bool.{eqb-true}
use Rattle.std.proofs.lemmas.List.{map-append}
use Rattle.std.proofs.lemmas.List.Elements.{All-nil, All-cons}
use Rattle.ca_lex.specs.Words.{upper_case}
use Rattle.ca_names.specs.Names.{has_name, repeats, has_double}
use Rattle.ca_verilog.specs.declared.fault.VerilogKind.TheVariants.{Undeclared, DoubleName, BadRange}
use Rattle.ca_verilog.specs.declared.lexeme.Lexeme.TheVariants as lexeme
use Rattle.ca_verilog.specs.declared.table.Side.TheVariants as side
use Rattle.ca_verilog.specs.declared.table.Place.TheVariants as place
use Rattle.ca_verilog.specs.Bus.{is_inner, has_direction, is_directed as bus_directed}
use Rattle.ca_verilog.specs.Instance.{has_instance}
use Rattle.ca_verilog.specs.Reading.{Hand, Reading, nothing, act, at_place, with_ports, with_hand}
use Rattle.ca_verilog.specs.Reading.{with_operand, keep_left, lexeme_step}
use Rattle.ca_verilog.specs.Reading.{width_of as reader_width}
use Rattle.ca_verilog.specs.Table.{row_of}
use Rattle.ca_verilog.proofs.PlaceLemmas.{got_map}
use Rattle.ca_syntax.specs.Tree.{Operand, Assign, Instance, Item, Module, Declared, header_names, ports_of}
use Rattle.ca_syntax.specs.Tree.{declared_by, declarations, instance_by, instances}
use Rattle.ca_syntax.specs.Symbols.{Symbol, listed, name_symbols, header_symbols, operand_symbols}
use Rattle.ca_syntax.specs.Symbols.{connection_symbols, item_symbols, module_symbols}
use Rattle.ca_syntax.specs.Names.{names_in, is_declared, is_directed}
use Rattle.ca_syntax.specs.Rules.{IsRightDeclared, IsRight, IsRightItem, IsRightAssign, IsRightInstance}
use Rattle.ca_syntax.proofs.NameLemmas as names
use Rattle.ca_syntax.proofs.ReadLemmas.{symbol_step, Reads}
use Rattle.ca_syntax.proofs.AfterLemmas.{OneByOne, each_after}
use Rattle.ca_syntax.proofs.DeclareLemmas.{seen_bus, seen_buses, bus_found, place_seen, undirected}
use Rattle.ca_syntax.proofs.SeenLemmas.{seen_operand, operand_seen, width_seen, IsSeen}
use Rattle.ca_syntax.proofs.OperandLemmas.{operand_read, after_operand, first_new}
use Rattle.ca_syntax.proofs.ItemLemmas as items
use Rattle.ca_syntax.proofs.ItemLemmas.{commas, with_sides, hand_of}
use Rattle.ca_syntax.proofs.TreeLemmas as trees
use Rattle.ca_syntax.proofs.TreeLemmas.{following, after_header, IsNextItem, parted, placed_names, grown}
use Rattle.ca_syntax.proofs.OnlyLemmas.{rest_read, next_read, first_taken, passed, not_false, operand_only}
use Rattle.ca_syntax.proofs.OnlyLemmas.{connections_only, declaration_only, new_first, none_new}

joined : (right : Operand) (it next : Reading)
    → symbol_step (Symbol.other lexeme.Semicolon) (at_place (after_operand side.Right right) it) ≡ Ok next
    → reader_width it.buses it.hand.left ≡ reader_width it.buses it.hand.operand
unfolding lexeme_step row_of act
joined (Operand.whole name) it next is = eqb-true _ _ (not_false _ (passed (not (reader_width it.buses it.hand.left == reader_width it.buses it.hand.operand)) BadRange _ next is).0)
joined (Operand.bit name index) it next is = eqb-true _ _ (not_false _ (passed (not (reader_width it.buses it.hand.left == reader_width it.buses it.hand.operand)) BadRange _ next is).0)
joined (Operand.constant value) it next is = eqb-true _ _ (not_false _ (passed (not (reader_width it.buses it.hand.left == reader_width it.buses it.hand.operand)) BadRange _ next is).0)

-- an `assign` that is read is right
assign_only : (declared : List Declared) (here : Assign) (it last : Reading) (rest : List Symbol) → it.buses ≡ seen_buses declared
    → Reads (at_place place.Item it) (item_symbols (Item.assign here) ++ rest) last → IsRightAssign declared here
assign_only declared here it last rest is whole =
    let all : declared ≡ declared ++ [] = sym (append-nil declared) in
    let spread = subst (λ (symbols : List Symbol). Reads (at_place place.Item it) symbols last)
    (append_assoc (Symbol.other lexeme.Assign ∷ operand_symbols here.left ++ Symbol.other lexeme.Equals ∷ operand_symbols here.right) (Symbol.other lexeme.Semicolon ∷ []) rest
    ∙ append_assoc (Symbol.other lexeme.Assign ∷ operand_symbols here.left) (Symbol.other lexeme.Equals ∷ operand_symbols here.right) (Symbol.other lexeme.Semicolon ∷ rest)) whole in
    let left = next_read _ _ _ _ last (items.assign_step it) spread in
    let left_right = operand_only declared here.left side.Left it last _ is left in
    let left_seen = subst (λ buses. IsSeen declared buses here.left) (sym is) (operand_seen declared declared [] here.left all left_right) in
    let equals = rest_read (operand_symbols here.left) _ _ _ last (operand_read declared side.Left here.left it left_seen) left in
    let right = next_read _ _ _ _ last (items.equals_step here.left (with_operand (seen_operand declared here.left) it)) equals in
    let right_right = operand_only declared here.right side.Right (keep_left (with_operand (seen_operand declared here.left) it)) last _ is right in
    let right_seen = subst (λ buses. IsSeen declared buses here.right) (sym is) (operand_seen declared declared [] here.right all right_right) in
    let over = rest_read (operand_symbols here.right) _ _ _ last
    (operand_read declared side.Right here.right (keep_left (with_operand (seen_operand declared here.left) it)) right_seen) right in
    let taken = first_taken _ _ _ _ over in
    let same = joined here.right (with_sides declared here it) taken.0 taken.1 in
    record {
      left_side = left_right;
      right_side = right_right;
      same_width = sym (width_seen declared declared [] here.left all left_right)
          ∙ ap (λ buses. reader_width buses (seen_operand declared here.left)) (sym is) ∙ same
          ∙ ap (λ buses. reader_width buses (seen_operand declared here.right)) is
          ∙ width_seen declared declared [] here.right all right_right;
    }

placed : (name : List ℕ) (it next : Reading) → symbol_step (Symbol.identifier name) (at_place place.InstanceName it) ≡ Ok next
    → has_instance name it.instances ≡ false
unfolding lexeme_step row_of act
placed name it next is = (passed (has_instance name it.instances) DoubleName _ next is).0

-- an instance that is read is right, and its name is new
instance_only : (declared : List Declared) (here : Instance) (it last : Reading) (rest : List Symbol) → it.buses ≡ seen_buses declared
    → Reads (at_place place.Item it) (item_symbols (Item.instance here) ++ rest) last
    → IsRightInstance declared here × (has_instance here.name it.instances ≡ false)
instance_only declared here it last rest is whole =
    let spread = subst (λ (symbols : List Symbol). Reads (at_place place.Item it) symbols last)
    (append_assoc (Symbol.identifier here.cell ∷ Symbol.identifier here.name ∷ Symbol.other lexeme.Open ∷ listed (map connection_symbols here.connections))
    (Symbol.other lexeme.Close ∷ Symbol.other lexeme.Semicolon ∷ []) rest) whole in
    let named = next_read _ _ _ _ last (items.cell_step here.cell it) spread in
    let taken = first_taken _ _ _ _ named in
    let new = placed here.name (with_hand (record it.hand { cell = upper_case here.cell }) it) taken.0 taken.1 in
    let pins = next_read _ _ _ _ last (items.instance_step here.name (with_hand (record it.hand { cell = upper_case here.cell }) it) new) named in
    let first = next_read _ _ _ _ last (items.pins_step (with_hand (hand_of here it.hand) it)) pins in
    let right = connections_only declared here.connections (hand_of here it.hand) it last _ is first in
    (record { different = right.0; values = right.1 }, new)

one_append : {T : Type 0} (P : List T → T → Type 0) (seen front more : List T) → OneByOne P seen front → OneByOne P (seen ++ front) more
    → OneByOne P seen (front ++ more)
one_append {T} P seen [] more first second = subst (λ (all : List T). OneByOne P all more) (append-nil seen) second
one_append {T} P seen (here ∷ front) more first second = (
  first.0,
  one_append P (seen ++ here ∷ []) front more first.1
      (subst (λ (all : List T). OneByOne P all more) (sym (append_assoc seen (here ∷ []) front)) second),
)

repeats_append : (seen front more : List (List ℕ)) → repeats seen front ≡ false → repeats (seen ++ front) more ≡ false
    → repeats seen (front ++ more) ≡ false
repeats_append seen [] more first second = ap (λ all. repeats all more) (sym (append-nil seen)) ∙ second
repeats_append seen (here ∷ front) more first second =
    let fresh = first_new seen here front first in
    new_first seen here (front ++ more) fresh.0 (repeats_append (seen ++ here ∷ []) front more fresh.1
    (ap (λ all. repeats all more) (append_assoc seen (here ∷ []) front) ∙ second))

abbrev instance_names : List Instance → List (List ℕ)
instance_names listed = map (λ (it : Instance). it.name) listed

-- what holds of items after others
record AreNext (tree : Module) (before listed : List Item) : Type 0 where
  declared : OneByOne (IsRightDeclared (ports_of tree)) (declarations before) (declarations listed)
  right : OneByOne IsRightItem before listed
  new : repeats (instance_names (instances before)) (instance_names (instances listed)) ≡ false

-- an item that is read is right given those before it
item_only : (tree : Module) (before after : List Item) (here : Item) (hand : Hand) (last : Reading) (rest : List Symbol)
    → Reads (following tree before hand) (item_symbols here ++ rest) last → AreNext tree before (here ∷ [])
item_only tree before after (Item.declaration here) hand last rest whole = record {
  declared = subst (OneByOne (IsRightDeclared (ports_of tree)) (declarations before)) (sym (append-nil (declared_by (Item.declaration here))))
      (declaration_only here (declarations before) (following tree before hand) last rest whole);
  right = (tt, tt);
  new = none_new (instance_names (instances before));
}
item_only tree before after (Item.assign here) hand last rest whole = record {
  declared = tt;
  right = (assign_only (declarations before) here (following tree before hand) last rest refl whole, tt);
  new = none_new (instance_names (instances before));
}
item_only tree before after (Item.instance here) hand last rest whole =
    let right = instance_only (declarations before) here (following tree before hand) last rest refl whole in
    record {
      declared = tt;
      right = (right.0, tt);
      new = new_first (instance_names (instances before)) here.name []
          (ap (has_name here.name) (sym (placed_names (declarations tree.items) (instances before))) ∙ right.1)
          (none_new (instance_names (instances before) ++ here.name ∷ []));
    }

-- so it is one that is read
next_of : (tree : Module) (before : List Item) (here : Item) → OneByOne (IsRightDeclared (ports_of tree)) [] (declarations before)
    → AreNext tree before (here ∷ []) → IsNextItem tree before here
next_of tree before (Item.declaration here) so_far next =
    each_after (IsRightDeclared (ports_of tree)) (declarations before ++ declared_by (Item.declaration here))
    (one_append (IsRightDeclared (ports_of tree)) [] (declarations before) (declared_by (Item.declaration here)) so_far
    (subst (OneByOne (IsRightDeclared (ports_of tree)) (declarations before)) (append-nil (declared_by (Item.declaration here))) next.declared))
next_of tree before (Item.assign here) so_far next = next.right.0
next_of tree before (Item.instance here) so_far next =
    (next.right.0, (first_new (instance_names (instances before)) here.name [] next.new).0)

-- one item, and then more
next_more : (tree : Module) (before more : List Item) (here : Item) → AreNext tree before (here ∷ []) → AreNext tree (before ++ here ∷ []) more
    → AreNext tree before (here ∷ more)
next_more tree before more here one others = record {
  declared = one_append (IsRightDeclared (ports_of tree)) (declarations before) (declared_by here) (declarations more)
      (subst (OneByOne (IsRightDeclared (ports_of tree)) (declarations before)) (append-nil (declared_by here)) one.declared)
      (subst (λ (seen : List Declared). OneByOne (IsRightDeclared (ports_of tree)) seen (declarations more)) (sym (grown declared_by before here)) others.declared);
  right = (one.right.0, others.right);
  new = ap (repeats (instance_names (instances before))) (map-append (λ (it : Instance). it.name) (instance_by here) (instances more))
      ∙ repeats_append (instance_names (instances before)) (instance_names (instance_by here)) (instance_names (instances more))
      (ap (λ (listed : List Instance). repeats (instance_names (instances before)) (instance_names listed)) (sym (append-nil (instance_by here))) ∙ one.new)
      (ap (λ (seen : List (List ℕ)). repeats seen (instance_names (instances more)))
      (sym (map-append (λ (it : Instance). it.name) (instances before) (instance_by here))
      ∙ ap instance_names (grown instance_by before here)) ∙ others.new);
}

declared_so_far : (tree : Module) (before : List Item) (here : Item) → OneByOne (IsRightDeclared (ports_of tree)) [] (declarations before)
    → AreNext tree before (here ∷ []) → OneByOne (IsRightDeclared (ports_of tree)) [] (declarations (before ++ here ∷ []))
declared_so_far tree before here so_far one =
    subst (OneByOne (IsRightDeclared (ports_of tree)) []) (grown declared_by before here)
    (one_append (IsRightDeclared (ports_of tree)) [] (declarations before) (declared_by here) so_far
    (subst (OneByOne (IsRightDeclared (ports_of tree)) (declarations before)) (append-nil (declared_by here)) one.declared))

-- items that are read are right, and what follows them is read
items_only : (tree : Module) (before listed : List Item) (hand : Hand) (last : Reading) (rest : List Symbol) → tree.items ≡ before ++ listed
    → OneByOne (IsRightDeclared (ports_of tree)) [] (declarations before)
    → Reads (following tree before hand) (flat_map item_symbols listed ++ rest) last
    → AreNext tree before listed × ((next : Hand) × Reads (following tree (before ++ listed) next) rest last)
items_only tree before [] hand last rest is so_far whole = (
  record { declared = tt; right = tt; new = none_new (instance_names (instances before)) },
  (hand, subst (λ (all : List Item). Reads (following tree all hand) rest last) (sym (append-nil before)) whole),
)
items_only tree before (here ∷ more) hand last rest is so_far whole =
    let spread = subst (λ (symbols : List Symbol). Reads (following tree before hand) symbols last)
    (append_assoc (item_symbols here) (flat_map item_symbols more) rest) whole in
    let one = item_only tree before more here hand last (flat_map item_symbols more ++ rest) spread in
    let read = trees.item_read tree before more here hand (next_of tree before here so_far one) is in
    let after_it = rest_read (item_symbols here) (flat_map item_symbols more ++ rest) _ _ last read.1 spread in
    let others = items_only tree (before ++ here ∷ []) more read.0 last rest (is ∙ sym (append_assoc before (here ∷ []) more))
    (declared_so_far tree before here so_far one) after_it in (
      next_more tree before more here one others.0,
      (others.1.0, subst (λ (all : List Item). Reads (following tree all others.1.0) rest last) (append_assoc before (here ∷ []) more) others.1.1),
    )

port_only : (name : List ℕ) (it next : Reading) → symbol_step (Symbol.identifier name) (at_place place.Port it) ≡ Ok next → has_name name it.ports ≡ false
unfolding lexeme_step row_of act
port_only name it next is = (passed (has_name name it.ports) DoubleName _ next is).0

ports_only : (listing seen : List (List ℕ)) (it last : Reading) (rest : List Symbol)
    → Reads (at_place place.PortEnd (with_ports seen it)) (commas (map name_symbols listing) ++ rest) last → repeats seen listing ≡ false
ports_only [] seen it last rest whole = none_new seen
ports_only (name ∷ listing) seen it last rest whole =
    let here = next_read _ _ _ _ last (trees.port_comma (with_ports seen it)) whole in
    let taken = first_taken _ _ _ _ here in
    let new = port_only name (with_ports seen it) taken.0 taken.1 in
    let more = next_read _ _ _ _ last (trees.port_step name (with_ports seen it) new) here in
    new_first seen name listing new (ports_only listing (seen ++ name ∷ []) it last rest more)

header_only : (header : Option (List (List ℕ))) (last : Reading) (rest : List Symbol)
    → Reads (at_place place.Header nothing) (header_symbols header ++ rest) last → has_double (header_names header) ≡ false
header_only None last rest whole = none_new []
header_only (Some []) last rest whole = none_new []
header_only (Some (name ∷ listing)) last rest whole =
    let spread = subst (λ (symbols : List Symbol). Reads (at_place place.Header nothing) symbols last)
    (append_assoc (Symbol.other lexeme.Open ∷ listed (map name_symbols (name ∷ listing))) (Symbol.other lexeme.Close ∷ []) rest) whole in
    let first = next_read _ _ _ _ last (trees.header_opens nothing) spread in
    let more = next_read _ _ _ _ last (trees.first_port name nothing refl) first in
    new_first [] name listing refl (ports_only listing (name ∷ []) nothing last (Symbol.other lexeme.Close ∷ rest) more)

closed : (it next : Reading) → symbol_step (Symbol.other lexeme.Endmodule) (at_place place.Item it) ≡ Ok next
    → list_all (has_direction it.buses) it.ports ≡ true
unfolding lexeme_step row_of act
closed it next is = not_false _ (passed (not (list_all (has_direction it.buses) it.ports)) Undeclared (Ok (at_place place.End it)) next is).0

directed_only : (name : List ℕ) (declared : List Declared) → has_direction (seen_buses declared) name ≡ true → is_directed name declared ≡ true
directed_only name declared is = by (is_directed name declared) refl
  where
    none : (has : Bool) → is_declared name declared ≡ has → is_directed name declared ≡ false → has_direction (seen_buses declared) name ≡ false
    none false reported unset =
        ap (λ (place : Option ℕ). elim place as (λ _. Bool) [ None ↦ false | Some place ↦ bus_directed (slice_get (seen_buses declared) place) ])
        (bus_found name declared ∙ names.no_place name (names_in declared) (names.has_declared name declared ∙ reported))
    none true reported unset =
        let found = place_seen name declared reported in
        ap (λ (place : Option ℕ). elim place as (λ _. Bool) [ None ↦ false | Some place ↦ bus_directed (slice_get (seen_buses declared) place) ])
        (bus_found name declared ∙ found.2)
        ∙ ap bus_directed (got_map (seen_bus declared) (names_in declared) found.0 name found.1)
        ∙ ap (λ way. not (is_inner way)) (undirected declared name unset)

    by : (has : Bool) → is_directed name declared ≡ has → has ≡ true
    by true reported = refl
    by false reported = absurd (true≢false (sym is ∙ none (is_declared name declared) refl reported))

all_directed : (declared : List Declared) (ports : List (List ℕ)) → list_all (has_direction (seen_buses declared)) ports ≡ true
    → All (λ name. is_directed name declared ≡ true) ports
all_directed declared [] is = All-nil (λ name. is_directed name declared ≡ true)
all_directed declared (name ∷ ports) is =
    let both = both_true (has_direction (seen_buses declared) name) (list_all (has_direction (seen_buses declared)) ports) is in
    All-cons (λ name. is_directed name declared ≡ true) name ports (directed_only name declared both.0) (all_directed declared ports both.1)
  where
    both_true : (x y : Bool) → (x && y) ≡ true → (x ≡ true) × (y ≡ true)
    both_true true y is = (refl, is)
    both_true false y is = absurd cc

-- a tree that is read is right
pub tree_only : (tree : Module) (last : Reading) → Reads nothing (module_symbols tree) last → IsRight tree
tree_only tree last whole =
    let spread = subst (λ (symbols : List Symbol). Reads nothing symbols last)
    (append_assoc (Symbol.other lexeme.Module ∷ Symbol.identifier tree.name ∷ header_symbols tree.header) (Symbol.other lexeme.Semicolon ∷ flat_map item_symbols tree.items)
    (Symbol.other lexeme.Endmodule ∷ [])) whole in
    let title = next_read _ _ _ _ last trees.module_step spread in
    let header = next_read _ _ _ _ last (trees.title_step tree.name nothing) title in
    let ports = header_only tree.header last _ header in
    let over = rest_read (header_symbols tree.header) _ _ _ last (trees.header_read tree.header ports) header in
    let listing = next_read _ _ _ _ last (trees.header_over tree.header (with_ports (ports_of tree) nothing)) over in
    let right = items_only tree [] tree.items nothing.hand last (Symbol.other lexeme.Endmodule ∷ []) refl tt listing in
    let taken = first_taken _ _ _ _ right.1.1 in
    record {
      ports = ports;
      directed = all_directed (declarations tree.items) (ports_of tree) (closed (following tree tree.items right.1.0) taken.0 taken.1);
      declared = each_after (IsRightDeclared (ports_of tree)) (declarations tree.items) right.0.declared;
      items = each_after IsRightItem tree.items right.0.right;
      instances = right.0.new;
    }
