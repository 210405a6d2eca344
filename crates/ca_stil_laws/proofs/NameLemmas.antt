-- The port bits of a linked chip have names of the STIL form.
use Rattle.std.proofs.Common.{◌≡◌, ℕ, zero, suc, ◌+◌, ◌-◌, ◌*◌, ◌/◌, ◌%◌, ◌==◌, ◌<◌, ◌≤◌, Bool, true, false, cond}
use Rattle.std.proofs.Common.{not, ◌&&◌, List, [], ◌∷◌, ◌++◌, ◌∙◌, length, map, flat_map, ap, arith, refl, sym, subst}
use Rattle.std.specs.Prelude.{codes, decimal, fold, get_or, slice_get, Option, Some, None, Ok, ⊤, if◌then◌else◌}
use Rattle.std.specs.List.{All, AllByRecursion, list_all}
use Rattle.std.proofs.lemmas.Bool.{le-leb, lt-ltb, ne_eqb}
use Rattle.std.proofs.lemmas.List.Folds.{list_all-append}
use Rattle.std.proofs.lemmas.Option.{slice_get_within, slice_get-get_or, get_or_from_slice_get}
use Rattle.std.specs.Fmt.{digits, digits_onto, digit_glyph}
use Rattle.ca_names.specs.Names.{has_name, with_name}
use Rattle.ca_token.specs.Names.{NamesArePlain}
use Rattle.ca_cell.specs.Library.{Named}
use Rattle.ca_verilog.specs.declared.lexeme.Lexeme.TheVariants as lexeme
use Rattle.ca_verilog.specs.declared.raw.RawBus.{RawBus}
use Rattle.ca_verilog.specs.declared.raw.RawNetlist.{RawNetlist}
use Rattle.ca_verilog.specs.declared.table.Range.{Range}
use Rattle.ca_verilog.specs.IsNetlist.{bit_count, range_width}
use Rattle.ca_verilog.specs.Text.{netlist_of}
use Rattle.ca_syntax.specs.Tree.{Declaration, Declared, Item, Module, declared_as, declared_by, declarations}
use Rattle.ca_syntax.specs.Symbols.{Symbol, listed, name_symbols, header_symbols, range_symbols, keyword_of}
use Rattle.ca_syntax.specs.Symbols.{item_symbols, module_symbols}
use Rattle.ca_syntax.specs.Names.{names_in}
use Rattle.ca_syntax.specs.TreeNetlist.{bus_in, buses_of, tree_netlist}
use Rattle.ca_syntax.specs.Laws.{IsTreeOf, ReadTextHasTree}
use Rattle.ca_linked.specs.declared.parts.PortBit.{PortBit}
use Rattle.ca_linked.specs.Linked.{LinkedChip}
use Rattle.ca_wiring.specs.declared.scan_row.ScanRow.{ScanRow}
use Rattle.ca_wiring.specs.Wiring.{HeaderBit, index_at, bit_name, is_input_port, header_bits_from, header_bits_of}
use Rattle.ca_wiring.specs.Wiring.{header_bits, wiring_of}
use Rattle.ca_wiring.specs.Linking.{IsLinkOf}
use Rattle.ca_stil_form.specs.Frame.{is_name_byte, is_name}
use Rattle.ca_stil_laws.proofs.ListLemmas.{all_at, also_there}
use Rattle.ca_stil_laws.proofs.SymbolLemmas.{IsNamedSymbol, symbols_named}

-- lists of which each has something
all_left : {X : Type 0} (P : X → Type 0) (xs ys : List X) → AllByRecursion P (xs ++ ys) → AllByRecursion P xs
all_left P [] ys all = tt
all_left P (x ∷ xs) ys all = (all.0, all_left P xs ys all.1)

all_right : {X : Type 0} (P : X → Type 0) (xs ys : List X) → AllByRecursion P (xs ++ ys) → AllByRecursion P ys
all_right P [] ys all = all
all_right P (x ∷ xs) ys all = all_right P xs ys all.1

all_both : {X : Type 0} (P : X → Type 0) (xs ys : List X) → AllByRecursion P xs → AllByRecursion P ys → AllByRecursion P (xs ++ ys)
all_both P [] ys first second = second
all_both P (x ∷ xs) ys first second = (first.0, all_both P xs ys first.1 second)

abbrev IsName : List ℕ → Type 0
IsName name = is_name name ≡ true

-- the declared names
names_listed : (names : List (List ℕ)) → AllByRecursion IsNamedSymbol (flat_map (λ part. Symbol.other lexeme.Comma ∷ part) (map name_symbols names))
    → AllByRecursion IsName names
names_listed [] all = tt
names_listed (name ∷ names) all = (all.1.0, names_listed names all.1.1)

declared_named : (it : Declaration) (names : List (List ℕ)) → AllByRecursion IsName names
    → AllByRecursion (λ (given : Declared). IsName given.name) (map (declared_as it.direction it.range) names)
declared_named it [] all = tt
declared_named it (name ∷ names) all = (all.0, declared_named it names all.1)

item_named : (item : Item) → AllByRecursion IsNamedSymbol (item_symbols item)
    → AllByRecursion (λ (given : Declared). IsName given.name) (declared_by item)
item_named (Item.declaration it) all =
    let names_part : List Symbol = listed (map name_symbols (it.first ∷ it.more)) in
    let front = all_left IsNamedSymbol (range_symbols it.range ++ names_part) (Symbol.other lexeme.Semicolon ∷ []) all.1 in
    let names = all_right IsNamedSymbol (range_symbols it.range) names_part front in
    declared_named it (it.first ∷ it.more) (names.0, names_listed it.more names.1)
item_named (Item.assign it) all = tt
item_named (Item.instance it) all = tt

items_named : (items : List Item) → AllByRecursion IsNamedSymbol (flat_map item_symbols items)
    → AllByRecursion (λ (given : Declared). IsName given.name) (declarations items)
items_named [] all = tt
items_named (item ∷ items) all =
    all_both (λ (given : Declared). IsName given.name) (declared_by item) (declarations items)
    (item_named item (all_left IsNamedSymbol (item_symbols item) (flat_map item_symbols items) all))
    (items_named items (all_right IsNamedSymbol (item_symbols item) (flat_map item_symbols items) all))

module_named : (tree : Module) → AllByRecursion IsNamedSymbol (module_symbols tree)
    → AllByRecursion (λ (given : Declared). IsName given.name) (declarations tree.items)
module_named tree all =
    let items : List Symbol = flat_map item_symbols tree.items in
    let front = all_left IsNamedSymbol (header_symbols tree.header ++ (Symbol.other lexeme.Semicolon ∷ items))
    (Symbol.other lexeme.Endmodule ∷ []) all.1.1 in
    let body = all_right IsNamedSymbol (header_symbols tree.header) (Symbol.other lexeme.Semicolon ∷ items) front in
    items_named tree.items body.1

-- each once
with_named : (name : List ℕ) (seen : List (List ℕ)) → IsName name → AllByRecursion IsName seen → AllByRecursion IsName (with_name name seen)
with_named name seen one all = by (has_name name seen)
  where
    by : (there : Bool) → AllByRecursion IsName (if there then seen else seen ++ name ∷ [])
    by true = all
    by false = all_both IsName seen (name ∷ []) all (one, tt)

once_named : (seen names : List (List ℕ)) → AllByRecursion IsName seen → AllByRecursion IsName names
    → AllByRecursion IsName (fold (λ seen name. with_name name seen) seen names)
once_named seen [] all more = all
once_named seen (name ∷ names) all more = once_named (with_name name seen) names (with_named name seen more.0 all) more.1

names_of_declared : (declared : List Declared) → AllByRecursion (λ (given : Declared). IsName given.name) declared
    → AllByRecursion IsName (map (λ (it : Declared). it.name) declared)
names_of_declared [] all = tt
names_of_declared (it ∷ declared) all = (all.0, names_of_declared declared all.1)

abbrev IsNamedBus : RawBus → Type 0
IsNamedBus bus = IsName bus.name

buses_named : (declared : List Declared) (names : List (List ℕ)) → AllByRecursion IsName names
    → AllByRecursion IsNamedBus (map (bus_in declared) names)
buses_named declared [] all = tt
buses_named declared (name ∷ names) all = (all.0, buses_named declared names all.1)

-- the buses of a netlist that was read
pub netlist_named : NamesArePlain → ReadTextHasTree → (text : List ℕ) (netlist : RawNetlist) → netlist_of text ≡ Ok netlist → AllByRecursion IsNamedBus netlist.buses
netlist_named plain has_tree text netlist read =
    let found = has_tree text netlist read in
    let tree = found.0 in
    let declared = module_named tree (subst (AllByRecursion IsNamedSymbol) found.1.spelled.spelled (symbols_named plain text)) in
    let names = once_named [] (map (λ (it : Declared). it.name) (declarations tree.items)) tt (names_of_declared (declarations tree.items) declared) in
    subst (λ (raw : RawNetlist). AllByRecursion IsNamedBus raw.buses) found.1.same
    (buses_named (declarations tree.items) (names_in (declarations tree.items)) names)

-- the name of a bit of a bus
left_true : (left right : Bool) → (left && right) ≡ true → left ≡ true
left_true true right is = refl
left_true false right is = is

right_true : (left right : Bool) → (left && right) ≡ true → right ≡ true
right_true true right is = is
right_true false right is = absurd cc

digit_named : (digit : ℕ) → digit < 10 → is_name_byte (digit_glyph false digit) ≡ true
digit_named digit below =
    let glyph : digit_glyph false digit ≡ 48 + digit = ap (λ (test : Bool). cond test (48 + digit) (87 + digit)) (lt-ltb digit 10 below) in
    let least = le-leb 33 (48 + digit) (omega arith) in
    let most = le-leb (48 + digit) 126 (omega (arith, below)) in
    let apart : not ((48 + digit) == 34) ≡ true = ap not (ne_eqb (48 + digit) 34 (λ same. omega (arith, same))) in
    ap is_name_byte glyph ∙ (λ j. (least j && most j) && apart j)

digits_named : (turns number : ℕ) (after : List ℕ) → list_all is_name_byte after ≡ true
    → list_all is_name_byte (digits_onto turns 10 false number after) ≡ true
digits_named zero number after all = all
digits_named (suc turns) number after all =
    let here = digit_named (number % 10) (omega arith) in
    let more : list_all is_name_byte (digit_glyph false (number % 10) ∷ after) ≡ true = (λ j. here j && all j) in
    by (number / 10 == 0) more (digits_named turns (number / 10) (digit_glyph false (number % 10) ∷ after) more)
  where
    by : (test : Bool) → list_all is_name_byte (digit_glyph false (number % 10) ∷ after) ≡ true
        → list_all is_name_byte (digits_onto turns 10 false (number / 10) (digit_glyph false (number % 10) ∷ after)) ≡ true
        → list_all is_name_byte (cond test (digit_glyph false (number % 10) ∷ after)
        (digits_onto turns 10 false (number / 10) (digit_glyph false (number % 10) ∷ after))) ≡ true
    by true more later = more
    by false more later = later

decimal_named : (number : ℕ) → list_all is_name_byte (decimal number) ≡ true
unfolding digits
decimal_named number = digits_named 64 number [] refl

index_named : (number : ℕ) → list_all is_name_byte (codes "[" ++ (decimal number ++ codes "]")) ≡ true
index_named number =
    let inside = list_all-append is_name_byte (decimal number) (codes "]") in
    let digits = decimal_named number in
    inside ∙ (λ j. digits j && true)

some_more : (name more : List ℕ) → not (length name == 0) ≡ true → not (length (name ++ more) == 0) ≡ true
some_more [] more some = absurd cc
some_more (byte ∷ name) more some = ap not (ne_eqb (suc (length (name ++ more))) 0 (λ same. omega (arith, same)))

bit_named : (bus : RawBus) (range : Option (ℕ × ℕ)) (k : ℕ) → IsNamedBus bus → IsName (bit_name bus range k)
bit_named bus None k named = named
bit_named bus (Some range) k named =
    let index : List ℕ = codes "[" ++ (decimal (index_at range k) ++ codes "]") in
    let some = some_more bus.name index (left_true (not (length bus.name == 0)) (list_all is_name_byte bus.name) named) in
    let first = right_true (not (length bus.name == 0)) (list_all is_name_byte bus.name) named in
    let last = index_named (index_at range k) in
    let both = list_all-append is_name_byte bus.name index ∙ (λ j. first j && last j) in
    λ j. some j && both j

-- the bits of the header
abbrev IsNamedBit : HeaderBit → Type 0
IsNamedBit bit = IsName bit.name

bits_named : (bus : RawBus) (first k count : ℕ) → IsNamedBus bus → AllByRecursion IsNamedBit (header_bits_from bus first k count)
bits_named bus first k zero named = tt
bits_named bus first k (suc count) named = (bit_named bus bus.range k named, bits_named bus first (k + 1) count named)

header_named : (buses : List RawBus) (ports : List ℕ) → AllByRecursion IsNamedBus buses → AllByRecursion IsNamedBit (header_bits buses ports)
header_named buses [] named = tt
header_named buses (place ∷ ports) named =
    all_both IsNamedBit (header_bits_of buses place (slice_get buses place)) (header_bits buses ports)
    (by (slice_get buses place) refl) (header_named buses ports named)
  where
    by : (found : Option RawBus) → slice_get buses place ≡ found → AllByRecursion IsNamedBit (header_bits_of buses place found)
    by None at = tt
    by (Some bus) at = bits_named bus _ 0 (range_width bus.range) (all_at IsNamedBus buses place bus named at)

-- the port bits
pub ports_named : NamesArePlain → ReadTextHasTree → (text : List ℕ) (netlist : RawNetlist) (library : List Named) (scan : List ScanRow) (chip : LinkedChip)
    → netlist_of text ≡ Ok netlist → IsLinkOf (wiring_of netlist library scan) chip → All (λ (port : PortBit). IsName port.name) chip.ports
ports_named plain has_tree text netlist library scan chip read link k d below =
    let header = header_named netlist.buses netlist.ports (netlist_named plain has_tree text netlist read) in
    let at = slice_get-get_or chip.ports k d below in
    let bit = also_there (wiring_of netlist library scan).header chip.ports k (get_or chip.ports k d) link.same_ports at in
    let named = all_at IsNamedBit (wiring_of netlist library scan).header k bit.0 header bit.1 in
    subst IsName (sym (link.ports k bit.0 (get_or chip.ports k d) bit.1 at).name) named
