-- The netlist of what is read of a right tree is the tree's.
use Rattle.std.proofs.Common.{◌≡◌, ℕ, zero, suc, ◌+◌, ◌<◌, ◌≤◌, List, [], ◌∷◌, ◌++◌, map, true, false, cond}
use Rattle.std.proofs.Common.{Option, Some, None}
use Rattle.std.proofs.Common.{Result, Ok, Err, arith, refl, sym, ap, ◌∙◌, subst, append-nil, append_assoc}
use Rattle.std.proofs.Common.{zero-add, ◌||◌}
use Rattle.std.specs.Prelude.{option_map, unwrap_or, flat_map, slice_get}
use Rattle.std.specs.List.{All, IsDistinct, AllByRecursion}
use Rattle.std.specs.Str.{bytes_eq}
use Rattle.std.proofs.lemmas.Bool.{lt-ltb, le-ltb}
use Rattle.std.proofs.lemmas.List.Elements.{All-head, All-tail}
use Rattle.std.proofs.lemmas.List.{map-append}
use Rattle.std.proofs.lemmas.List.Folds.{list_any-append}
use Rattle.ca_lex.specs.Words.{upper_case}
use Rattle.ca_names.specs.Names.{has_name}
use Rattle.ca_token.specs.declared.fault.Flaw.{Flaw}
use Rattle.ca_token.specs.Scan.{scan_of}
use Rattle.ca_verilog.specs.declared.fault.VerilogFault.{VerilogFault}
use Rattle.ca_verilog.specs.declared.fault.VerilogFault.TheVariants.{TooManyNets}
use Rattle.ca_verilog.specs.declared.netlist.TheConstants.{MOST_BITS}
use Rattle.ca_verilog.specs.declared.raw.RawBit.{RawBit}
use Rattle.ca_verilog.specs.declared.raw.RawBit.TheVariants as bit
use Rattle.ca_verilog.specs.declared.raw.RawNetlist.{RawNetlist}
use Rattle.ca_verilog.specs.declared.table.Range.{Range}
use Rattle.ca_verilog.specs.IsNetlist.{range_width, bit_count}
use Rattle.ca_verilog.specs.Joins.{pairs_of}
use Rattle.ca_verilog.specs.Netlist.{bits_with, first_bits, first_at, first_bit, offset_in, raw_range}
use Rattle.ca_verilog.specs.Netlist.{raw_bus, raw_use, raw_instance, raw_joins}
use Rattle.ca_verilog.specs.Netlist.{port_place, netlist_with, limited}
use Rattle.ca_verilog.specs.Reading.{Hand, Reading, nothing, width_in}
use Rattle.ca_verilog.specs.Text.{tokens_from, then_flaw, ended, limited_of, netlist_of}
use Rattle.ca_verilog.proofs.DistinctLemmas.{same_name, differ}
use Rattle.ca_verilog.proofs.BitLemmas.{counted}
use Rattle.ca_syntax.specs.Tree.{Operand, Connection, Assign, Instance, Item, Module, Declared, declarations}
use Rattle.ca_syntax.specs.Tree.{assigns, instances, ports_of, declared_by}
use Rattle.ca_syntax.specs.Symbols.{Symbol, IsTextOf}
use Rattle.ca_syntax.specs.Names.{names_in, is_declared, range_of}
use Rattle.ca_syntax.specs.Rules.{IsRight, IsRightOperand, IsRightValue, IsRightAssign, IsRightInstance}
use Rattle.ca_syntax.specs.Rules.{IsIndexOf}
use Rattle.ca_syntax.specs.TreeNetlist.{bus_in, buses_of, bits_before, bit_of, joins_of, use_of, instance_of}
use Rattle.ca_syntax.specs.TreeNetlist.{port_of, tree_netlist}
use Rattle.ca_syntax.specs.Laws.{tree_bits}
use Rattle.ca_syntax.proofs.NameLemmas as names
use Rattle.ca_syntax.proofs.DeclareLemmas.{seen_bus, seen_buses, bus_found}
use Rattle.ca_syntax.proofs.SeenLemmas.{seen_operand, seen_join, seen_use, seen_instance, found_in}
use Rattle.ca_syntax.proofs.SeenLemmas.{width_seen}
use Rattle.ca_syntax.proofs.ReadLemmas.{Reads, tokens_read}
use Rattle.ca_syntax.proofs.TreeLemmas.{parted, tree_reading, tree_read}

-- names as buses
raw_each : (declared : List Declared) (listed : List (List ℕ)) → map raw_bus (map (seen_bus declared) listed) ≡ map (bus_in declared) listed
raw_each declared [] = refl
raw_each declared (name ∷ listed) = ap (λ more. bus_in declared name ∷ more) (raw_each declared listed)

width_reported : (range : Option Range) → range_width (option_map raw_range range) ≡ width_in range
width_reported None = refl
width_reported (Some range) = refl

differs : (first name : List ℕ) (listed : List (List ℕ)) (at : ℕ) → AllByRecursion (λ other. bytes_eq first other ≡ false) listed
    → slice_get listed at ≡ Some name → bytes_eq first name ≡ false
differs first name [] at all is = absurd cc
differs first name (other ∷ listed) zero all is =
    let same : other ≡ name = cc in
    subst (λ (n : List ℕ). bytes_eq first n ≡ false) same all.0
differs first name (other ∷ listed) (suc at) all is = differs first name listed at all.1 is

-- the bits of a name follow those of the names before it
first_seen : (declared : List Declared) (listed : List (List ℕ)) (bits at : ℕ) (name : List ℕ) → IsDistinct bytes_eq listed
    → slice_get listed at ≡ Some name
    → first_at at (first_bits bits (map (seen_bus declared) listed)) ≡ bits + bits_before name (map (bus_in declared) listed)
unfolding IsDistinct
first_seen declared [] bits at name distinct is = absurd cc
first_seen declared (first ∷ listed) bits zero name distinct is =
    let same : first ≡ name = cc in
    let equal : bytes_eq name first ≡ true = subst (λ (n : List ℕ). bytes_eq name n ≡ true) (sym same) (same_name name) in
    let none : cond (bytes_eq name first) 0 (range_width (bus_in declared first).range + bits_before name (map (bus_in declared) listed)) ≡ 0 =
    ap (λ found. cond found 0 (range_width (bus_in declared first).range + bits_before name (map (bus_in declared) listed))) equal in
    omega (arith, none)
first_seen declared (first ∷ listed) bits (suc at) name distinct is =
    let other : bytes_eq name first ≡ false = differ first name (differs first name listed at distinct.0 is) in
    let some : cond (bytes_eq name first) 0 (range_width (bus_in declared first).range + bits_before name (map (bus_in declared) listed))
    ≡ range_width (bus_in declared first).range + bits_before name (map (bus_in declared) listed) =
    ap (λ found. cond found 0 (range_width (bus_in declared first).range + bits_before name (map (bus_in declared) listed))) other in
    omega (
      arith,
      some,
      width_reported (range_of first declared),
      first_seen declared listed (bits + width_in (range_of first declared)) at name distinct.1 is,
    )

-- the first bit of a declared name
name_bit : (whole : List Declared) (name : List ℕ) → is_declared name whole ≡ true
    → first_at (port_of whole name) (first_bits 0 (seen_buses whole)) ≡ bits_before name (buses_of whole)
name_bit whole name is =
    first_seen whole (names_in whole) 0 (port_of whole name) name (names.names_distinct whole)
    (found_in whole whole [] name (sym (append-nil whole)) is).there
    ∙ zero-add (bits_before name (buses_of whole))

-- what is declared stays declared
declared_kept : (name : List ℕ) (declared later : List Declared) → is_declared name declared ≡ true → is_declared name (declared ++ later) ≡ true
declared_kept name declared later is =
    ap (has_name name) (map-append (λ (it : Declared). it.name) declared later)
    ∙ list_any-append (bytes_eq name) (names.all_names declared) (names.all_names later)
    ∙ ap (λ found. found || has_name name (names.all_names later)) is

-- an operand that is right given some declarations is right given all
right_whole : (declared later : List Declared) (on : Operand) → IsRightOperand declared on → IsRightOperand (declared ++ later) on
right_whole declared later (Operand.whole name) right = declared_kept name declared later right
right_whole declared later (Operand.bit name index) right =
    (declared_kept name declared later right.0, subst (IsIndexOf index) (sym (names.range_kept name declared later right.0)) right.1)
right_whole declared later (Operand.constant value) right = tt

abbrev firsts : List Declared → List ℕ
firsts whole = first_bits 0 (seen_buses whole)

bit_same : (whole : List Declared) (on : Operand) → IsRightOperand whole on
    → first_bit (firsts whole) (seen_buses whole) (seen_operand whole on) ≡ bit_of whole on
bit_same whole (Operand.whole name) right = ap (λ (number : ℕ). bit.Bit number) (name_bit whole name right)
bit_same whole (Operand.bit name index) right = λ j. bit.Bit (name_bit whole name right.0 j
    + offset_in ((found_in whole whole [] name (sym (append-nil whole)) right.0).range j) index)
bit_same whole (Operand.constant value) right = refl

join_same : (whole : List Declared) (here : Assign) → IsRightOperand whole here.left → IsRightOperand whole here.right
    → raw_joins (firsts whole) (seen_buses whole) (seen_join whole here) ≡ joins_of whole here
join_same whole here left right = λ j. pairs_of (record {
  left = bit_same whole here.left left j;
  right = bit_same whole here.right right j;
  count = width_seen whole whole [] here.left (sym (append-nil whole)) left j;
})

value_same : (declared later : List Declared) (value : Option Operand) → IsRightValue declared value
    → option_map (first_bit (firsts (declared ++ later)) (seen_buses (declared ++ later))) (option_map (seen_operand (declared ++ later)) value)
    ≡ option_map (bit_of (declared ++ later)) value
value_same declared later None right = refl
value_same declared later (Some on) right =
    ap (λ (given : RawBit). Some given) (bit_same (declared ++ later) on (right_whole declared later on right.0))

uses_same : (declared later : List Declared) (connections : List Connection)
    → All (λ (on : Connection). IsRightValue declared on.value) connections
    → map (raw_use (firsts (declared ++ later)) (seen_buses (declared ++ later))) (map (seen_use (declared ++ later)) connections)
    ≡ map (use_of (declared ++ later)) connections
uses_same declared later [] right = refl
uses_same declared later (on ∷ more) right = λ j.
    record {
      pin = upper_case on.pin;
      bit = value_same declared later on.value (All-head (λ (on : Connection). IsRightValue declared on.value) on more right) j;
    } ∷ uses_same declared later more (All-tail (λ (on : Connection). IsRightValue declared on.value) on more right) j

instance_same : (whole declared later : List Declared) (here : Instance) → whole ≡ declared ++ later → IsRightInstance declared here
    → raw_instance (firsts whole) (seen_buses whole) (seen_instance whole here) ≡ instance_of whole here
instance_same whole declared later here is right =
    subst (λ (all : List Declared). raw_instance (firsts all) (seen_buses all) (seen_instance all here) ≡ instance_of all here) (sym is)
    (λ j. record { name = here.name; cell = upper_case here.cell; pins = uses_same declared later here.connections right.values j })

joins_same : (tree : Module) (before items : List Item) → IsRight tree → tree.items ≡ before ++ items
    → flat_map (raw_joins (firsts (declarations tree.items)) (seen_buses (declarations tree.items))) (map (seen_join (declarations tree.items)) (assigns items))
    ≡ flat_map (joins_of (declarations tree.items)) (assigns items)
joins_same tree before [] right is = refl
joins_same tree before (Item.declaration here ∷ items) right is =
    joins_same tree (before ++ Item.declaration here ∷ []) items right (is ∙ sym (append_assoc before (Item.declaration here ∷ []) items))
joins_same tree before (Item.instance here ∷ items) right is =
    joins_same tree (before ++ Item.instance here ∷ []) items right (is ∙ sym (append_assoc before (Item.instance here ∷ []) items))
joins_same tree before (Item.assign here ∷ items) right is =
    let rule : IsRightAssign (declarations before) here = right.items before (Item.assign here) items is in
    let parts : declarations before ++ declarations items ≡ declarations tree.items =
    sym (parted declared_by tree.items before items (Item.assign here) is) in
    λ j. join_same (declarations tree.items) here
    (subst (λ (all : List Declared). IsRightOperand all here.left) parts (right_whole (declarations before) (declarations items) here.left rule.left_side))
    (subst (λ (all : List Declared). IsRightOperand all here.right) parts (right_whole (declarations before) (declarations items) here.right rule.right_side)) j
    ++ joins_same tree (before ++ Item.assign here ∷ []) items right (is ∙ sym (append_assoc before (Item.assign here ∷ []) items)) j

instances_same : (tree : Module) (before items : List Item) → IsRight tree → tree.items ≡ before ++ items
    → map (raw_instance (firsts (declarations tree.items)) (seen_buses (declarations tree.items))) (map (seen_instance (declarations tree.items)) (instances items))
    ≡ map (instance_of (declarations tree.items)) (instances items)
instances_same tree before [] right is = refl
instances_same tree before (Item.declaration here ∷ items) right is =
    instances_same tree (before ++ Item.declaration here ∷ []) items right (is ∙ sym (append_assoc before (Item.declaration here ∷ []) items))
instances_same tree before (Item.assign here ∷ items) right is =
    instances_same tree (before ++ Item.assign here ∷ []) items right (is ∙ sym (append_assoc before (Item.assign here ∷ []) items))
instances_same tree before (Item.instance here ∷ items) right is = λ j.
    instance_same (declarations tree.items) (declarations before) (declarations items) here
    (parted declared_by tree.items before items (Item.instance here) is) (right.items before (Item.instance here) items is) j
    ∷ instances_same tree (before ++ Item.instance here ∷ []) items right (is ∙ sym (append_assoc before (Item.instance here ∷ []) items)) j

ports_same : (whole : List Declared) (ports : List (List ℕ)) → map (port_place (seen_buses whole)) ports ≡ map (port_of whole) ports
ports_same whole [] = refl
ports_same whole (name ∷ ports) = λ j. unwrap_or (bus_found name whole j) 0 ∷ ports_same whole ports j

-- the netlist of what is read is the tree's
netlist_same : (tree : Module) (last : Hand) → IsRight tree
    → netlist_with (firsts (declarations tree.items)) (tree_reading tree last) ≡ tree_netlist tree
netlist_same tree last right = λ j. record {
  buses = raw_each (declarations tree.items) (names_in (declarations tree.items)) j;
  ports = ports_same (declarations tree.items) (ports_of tree) j;
  joins = joins_same tree [] tree.items right refl j;
  instances = instances_same tree [] tree.items right refl j;
}

-- it has the bits that the tree declares
bits_same : (tree : Module) → bits_with 0 (seen_buses (declarations tree.items)) ≡ tree_bits tree
bits_same tree =
    counted 0 (seen_buses (declarations tree.items)) ∙ zero-add (bit_count (map raw_bus (seen_buses (declarations tree.items))))
    ∙ ap bit_count (raw_each (declarations tree.items) (names_in (declarations tree.items)))

-- the text of a right tree is read
text_read : (text : List ℕ) (tree : Module) → IsTextOf text tree → IsRight tree
    → (last : Hand) × (netlist_of text ≡ limited (tree_reading tree last))
text_read text tree is right =
    let read = tree_read tree right in
    let tokens : tokens_from text nothing (scan_of text).tokens ≡ Ok (tree_reading tree read.0) =
    tokens_read text (scan_of text).tokens nothing (tree_reading tree read.0)
    (subst (λ (symbols : List Symbol). Reads nothing symbols (tree_reading tree read.0)) (sym is.spelled) read.1) in (
      read.0,
      ap (λ (given : Result Reading VerilogFault). limited_of (ended text (then_flaw text (scan_of text).flaw given))) tokens
          ∙ ap (λ (flaw : Option Flaw). limited_of (ended text (then_flaw text flaw (Ok (tree_reading tree read.0))))) is.whole,
    )

pub right_read : (text : List ℕ) (tree : Module) → IsTextOf text tree → IsRight tree → tree_bits tree ≤ MOST_BITS
    → netlist_of text ≡ Ok (tree_netlist tree)
unfolding limited
right_read text tree is right few =
    let read = text_read text tree is right in
    let bits : bits_with 0 (seen_buses (declarations tree.items)) ≤ MOST_BITS = omega (arith, bits_same tree, few) in
    read.1
    ∙ ap (λ many. cond many (Err (TooManyNets (bits_with 0 (seen_buses (declarations tree.items)))))
    (Ok (netlist_with (firsts (declarations tree.items)) (tree_reading tree read.0))))
    (le-ltb MOST_BITS (bits_with 0 (seen_buses (declarations tree.items))) bits)
    ∙ ap (λ (raw : RawNetlist). Ok raw) (netlist_same tree read.0 right)

pub large_refused : (text : List ℕ) (tree : Module) → IsTextOf text tree → IsRight tree → MOST_BITS < tree_bits tree
    → netlist_of text ≡ Err (TooManyNets (tree_bits tree))
unfolding limited
large_refused text tree is right large =
    let read = text_read text tree is right in
    let bits : MOST_BITS < bits_with 0 (seen_buses (declarations tree.items)) = omega (arith, bits_same tree, large) in
    read.1
    ∙ ap (λ many. cond many (Err (TooManyNets (bits_with 0 (seen_buses (declarations tree.items)))))
    (Ok (netlist_with (firsts (declarations tree.items)) (tree_reading tree read.0))))
    (lt-ltb MOST_BITS (bits_with 0 (seen_buses (declarations tree.items))) bits)
    ∙ ap (λ (count : ℕ). Err (TooManyNets count)) (bits_same tree)
