-- A netlist that was read keeps the conditions of one.
use Rattle.std.proofs.Common.{◌≡◌, ◌≢◌, ℕ, zero, suc, ◌-◌, ◌<◌, ◌≤◌, ◌^◌, List, Bool, true, false, cond, not}
use Rattle.std.proofs.Common.{◌&&◌, [], ◌∷◌, length, map}
use Rattle.std.proofs.Common.{IfOk, Option, Some, None, Result, Ok, Err, arith, refl, sym, ap, ◌∙◌, subst}
use Rattle.std.specs.Prelude.{slice_get, nat_lt, unwrap_or}
use Rattle.std.specs.List.{All, Contains, IsDistinct, list_all}
use Rattle.std.specs.Str.{bytes_eq}
use Rattle.std.proofs.lemmas.Bool.{ltb-false}
use Rattle.std.proofs.lemmas.List.{length-map}
use Rattle.std.proofs.lemmas.List.Elements.{All-nil, All-cons, All-map, All-weaker}
use Rattle.ca_lex.specs.declared.token.Token.{Token}
use Rattle.ca_lex.specs.FirstFault.{steps_from, located}
use Rattle.ca_lex.proofs.FirstFaultLemmas.{steps_from-cons, after_step}
use Rattle.ca_lex.specs.Reading.{Gives}
use Rattle.ca_names.specs.Names.{has_name}
use Rattle.ca_token.specs.declared.fault.Flaw.{Flaw}
use Rattle.ca_token.specs.Scan.{Scan, scan_of, line_at}
use Rattle.ca_verilog.specs.declared.bus.Bus.{Bus}
use Rattle.ca_verilog.specs.declared.fault.VerilogKind.TheVariants.{Syntax}
use Rattle.ca_verilog.specs.declared.fault.VerilogFault.{VerilogFault}
use Rattle.ca_verilog.specs.declared.fault.VerilogFault.TheVariants.{At, TooManyNets}
use Rattle.ca_verilog.specs.declared.instance.Use.{Use}
use Rattle.ca_verilog.specs.declared.instance.Instance.{Instance}
use Rattle.ca_verilog.specs.declared.netlist.TheConstants.{MOST_BITS}
use Rattle.ca_verilog.specs.declared.raw.RawBus.{RawBus}
use Rattle.ca_verilog.specs.declared.raw.RawUse.{RawUse}
use Rattle.ca_verilog.specs.declared.raw.RawInstance.{RawInstance}
use Rattle.ca_verilog.specs.declared.raw.RawNetlist.{RawNetlist}
use Rattle.ca_verilog.specs.declared.table.Direction.{Direction}
use Rattle.ca_verilog.specs.declared.table.Direction.TheVariants as direction
use Rattle.ca_verilog.specs.Bus.{is_inner, bus_of, is_directed, has_direction}
use Rattle.ca_verilog.specs.IsNetlist.{bit_count, IsJoinOf, IsOnBit, IsInstanceOf, IsPort, IsNetlist}
use Rattle.ca_verilog.specs.code.Kept.{IsOfHeader, AreNames, AreUses, IsUsed, IsKept, IsWhole}
use Rattle.ca_verilog.specs.Netlist.{bits_with, first_bits, raw_bus, raw_use, raw_instance, port_place}
use Rattle.ca_verilog.specs.Netlist.{netlist_with, limited}
use Rattle.ca_verilog.specs.Reading.{Reading, Step, nothing}
use Rattle.ca_verilog.specs.Text.{token_step, at_token, tokens_from, then_flaw, is_end, ended, reading_of}
use Rattle.ca_verilog.specs.VerilogFault.{fault_reported}
use Rattle.ca_verilog.proofs.BitLemmas.{counted, joins_within, used_within}
use Rattle.ca_verilog.proofs.KeptLemmas.{all_at, got, place_named, step_kept, nothing_kept}
use Rattle.ca_verilog.proofs.PlaceLemmas.{got_within, got_map, map_got, distinct_once, place_reported, found_at}

bus_names : (buses : List Bus) → map (λ (bus : RawBus). bus.name) (map raw_bus buses) ≡ map (λ (bus : Bus). bus.name) buses
bus_names [] = refl
bus_names (bus ∷ more) = ap (λ (names : List (List ℕ)). bus.name ∷ names) (bus_names more)

pin_names : (firsts : List ℕ) (buses : List Bus) (uses : List Use)
    → map (λ (used : RawUse). used.pin) (map (raw_use firsts buses) uses) ≡ map (λ (used : Use). used.pin) uses
pin_names firsts buses [] = refl
pin_names firsts buses (used ∷ more) = ap (λ (names : List (List ℕ)). used.pin ∷ names) (pin_names firsts buses more)

instance_names : (firsts : List ℕ) (buses : List Bus) (instances : List Instance)
    → map (λ (instance : RawInstance). instance.name) (map (raw_instance firsts buses) instances) ≡ map (λ (instance : Instance). instance.name) instances
instance_names firsts buses [] = refl
instance_names firsts buses (instance ∷ more) =
    ap (λ (names : List (List ℕ)). instance.name ∷ names) (instance_names firsts buses more)

-- a name with a direction, its place and its declaration
record Directed (buses : List Bus) (name : List ℕ) : Type 0 where
  place : ℕ
  bus : Bus
  found : bus_of name buses ≡ Some place
  there : slice_get buses place ≡ Some bus
  outer : is_inner bus.direction ≡ false

directed : (buses : List Bus) (name : List ℕ) → has_direction buses name ≡ true → Directed buses name
directed buses name = by (bus_of name buses) refl
  where
    not_true : (inner : Bool) → not inner ≡ true → inner ≡ false
    not_true true is = absurd cc
    not_true false is = refl

    by_bus : (place : ℕ) (bus : Option Bus) → bus_of name buses ≡ Some place → slice_get buses place ≡ bus → is_directed bus ≡ true
        → Directed buses name
    by_bus place None found there is = absurd cc
    by_bus place (Some bus) found there is = record {
      place = place;
      bus = bus;
      found = found;
      there = there;
      outer = not_true (is_inner bus.direction) is;
    }

    by : (found : Option ℕ) → bus_of name buses ≡ found
        → elim found as (λ _. Bool) [ None ↦ false | Some place ↦ is_directed (slice_get buses place) ] ≡ true → Directed buses name
    by None found is = absurd cc
    by (Some place) found is = by_bus place (slice_get buses place) found refl is

outer_port : (given : Direction) → is_inner given ≡ false → given ≢ direction.Inner
outer_port direction.Inner is = absurd cc
outer_port direction.Input is = λ same. cc
outer_port direction.Output is = λ same. cc

port_outer : (given : Direction) → given ≢ direction.Inner → is_inner given ≡ false
port_outer direction.Inner is = absurd (is refl)
port_outer direction.Input is = refl
port_outer direction.Output is = refl

place_is : (buses : List Bus) (name : List ℕ) (place : ℕ) → bus_of name buses ≡ Some place → port_place buses name ≡ place
place_is buses name place found = ap (λ (at : Option ℕ). unwrap_or at 0) found

port_of : (buses : List Bus) (name : List ℕ) → has_direction buses name ≡ true → IsPort (map raw_bus buses) (port_place buses name)
port_of buses name is =
    let it : Directed buses name = directed buses name is in
    subst (IsPort (map raw_bus buses)) (sym (place_is buses name it.place it.found))
    (raw_bus it.bus, got_map raw_bus buses it.place it.bus it.there, outer_port it.bus.direction it.outer)

ports_of : (buses : List Bus) (names : List (List ℕ)) → list_all (has_direction buses) names ≡ true
    → All (IsPort (map raw_bus buses)) (map (port_place buses) names)
ports_of buses [] is = All-nil (IsPort (map raw_bus buses))
ports_of buses (name ∷ more) is =
    let both : (has_direction buses name ≡ true) × (list_all (has_direction buses) more ≡ true) =
    both_true (has_direction buses name) (list_all (has_direction buses) more) is in
    All-cons (IsPort (map raw_bus buses)) (port_place buses name) (map (port_place buses) more) (port_of buses name both.0)
    (ports_of buses more both.1)
  where
    both_true : (x y : Bool) → (x && y) ≡ true → (x ≡ true) × (y ≡ true)
    both_true true y is = (refl, is)
    both_true false y is = absurd cc

each_port : (ports : List (List ℕ)) (buses : List Bus) → AreNames ports buses → (place : ℕ) → IsPort (map raw_bus buses) place
    → Contains (map (port_place buses) ports) place
each_port ports buses are place (raw, there, outer) =
    let at = map_got raw_bus buses place raw there in
    let inner : is_inner at.0.direction ≡ false =
    port_outer at.0.direction (subst (λ (bus : RawBus). bus.direction ≢ direction.Inner) (sym at.2) outer) in
    let known : has_name at.0.name ports ≡ true = all_at (IsOfHeader ports) buses place at.0 are.of_header at.1 inner in
    let name_at = found_at at.0.name ports known in
    let is_place : port_place buses at.0.name ≡ place =
    place_is buses at.0.name place
    (place_reported (map (λ (bus : Bus). bus.name) buses) are.distinct_buses place at.0.name
    (got_map (λ (bus : Bus). bus.name) buses place at.0 at.1)) in
    let got_place : slice_get (map (port_place buses) ports) name_at.0 ≡ Some (port_place buses at.0.name) =
    got_map (port_place buses) ports name_at.0 at.0.name name_at.1 in (
      name_at.0,
      got_within (map (port_place buses) ports) name_at.0 (port_place buses at.0.name) got_place,
      got (map (port_place buses) ports) name_at.0 (port_place buses at.0.name) place got_place ∙ is_place,
    )

some_same : {X : Type 0} (one other : X) → ◌≡◌ {A = Option X} (Some one) (Some other) → one ≡ other
some_same one other is = cc

all_true : (test : List ℕ → Bool) (names : List (List ℕ)) (place : ℕ) (name : List ℕ) → list_all test names ≡ true
    → slice_get names place ≡ Some name → test name ≡ true
all_true test [] place name all is = absurd cc
all_true test (first ∷ more) zero name all is =
    let same : first ≡ name = cc in
    subst (λ (n : List ℕ). test n ≡ true) same (front (test first) (list_all test more) all)
  where
    front : (x y : Bool) → (x && y) ≡ true → x ≡ true
    front true y is = refl
    front false y is = absurd cc
all_true test (first ∷ more) (suc place) name all is = all_true test more place name (following (test first) (list_all test more) all) is
  where
    following : (x y : Bool) → (x && y) ≡ true → y ≡ true
    following true y is = is
    following false y is = absurd cc

-- two names with directions that have one place are the same
same_place : (buses : List Bus) (one other : List ℕ) → has_direction buses one ≡ true → has_direction buses other ≡ true
    → port_place buses one ≡ port_place buses other → one ≡ other
same_place buses one other one_is other_is same =
    let first : Directed buses one = directed buses one one_is in
    let second : Directed buses other = directed buses other other_is in
    let places : first.place ≡ second.place =
    sym (place_is buses one first.place first.found) ∙ same ∙ place_is buses other second.place second.found in
    let bus : first.bus ≡ second.bus =
    some_same first.bus second.bus (sym first.there ∙ ap (slice_get buses) places ∙ second.there) in
    sym (place_named one buses first.place first.bus first.found first.there) ∙ ap (λ (b : Bus). b.name) bus
    ∙ place_named other buses second.place second.bus second.found second.there

once : (ports : List (List ℕ)) (buses : List Bus) → IsDistinct bytes_eq ports → list_all (has_direction buses) ports ≡ true
    → (j k place : ℕ) → slice_get (map (port_place buses) ports) j ≡ Some place → slice_get (map (port_place buses) ports) k ≡ Some place → j ≡ k
once ports buses distinct closed j k place one other =
    let first = map_got (port_place buses) ports j place one in
    let second = map_got (port_place buses) ports k place other in
    let same : first.0 ≡ second.0 =
    same_place buses first.0 second.0 (all_true (has_direction buses) ports j first.0 closed first.1)
    (all_true (has_direction buses) ports k second.0 closed second.1) (first.2 ∙ sym second.2) in
    distinct_once ports distinct j k second.0 (first.1 ∙ ap (λ (n : List ℕ). Some n) same) second.1

instance_within : (buses : List Bus) (instance : Instance) → AreUses buses instance.uses
    → IsInstanceOf (bits_with 0 buses) (raw_instance (first_bits 0 buses) buses instance)
instance_within buses instance are = record {
  distinct = subst (IsDistinct bytes_eq) (sym (pin_names (first_bits 0 buses) buses instance.uses)) are.distinct;
  on_bits = All-map (λ (used : RawUse). IsOnBit (bits_with 0 buses) used.bit) (raw_use (first_bits 0 buses) buses) instance.uses
      (All-weaker (λ (used : Use). IsUsed buses used.operand) (λ (used : Use). IsOnBit (bits_with 0 buses) (raw_use (first_bits 0 buses) buses used).bit)
      (λ used. used_within buses used.operand) instance.uses are.used);
}

-- what the reading keeps at the module's end, the netlist keeps
pub netlist_kept : (it : Reading) → IsKept it.place it → is_end it.place ≡ true → bits_with 0 it.buses ≤ MOST_BITS → length it.instances < 2 ^ 30
    → IsNetlist (netlist_with (first_bits 0 it.buses) it)
netlist_kept it kept over few few_instances =
    let firsts : List ℕ = first_bits 0 it.buses in
    let count : bits_with 0 it.buses ≡ bit_count (map raw_bus it.buses) = omega (arith, counted 0 it.buses) in
    record {
      few_bits = omega (arith, count, few);
      few_instances = omega (arith, few_instances, length-map it.instances (raw_instance firsts it.buses));
      distinct_buses = subst (IsDistinct bytes_eq) (sym (bus_names it.buses)) kept.names.distinct_buses;
      are_ports = ports_of it.buses it.ports (kept.closed over);
      each_port = each_port it.ports it.buses kept.names;
      once = once it.ports it.buses kept.names.distinct_ports (kept.closed over);
      joins = subst (λ (bits : ℕ). All (IsJoinOf bits) (netlist_with firsts it).joins) count (joins_within it.buses it.joins kept.joins);
      distinct_instances = subst (IsDistinct bytes_eq) (sym (instance_names firsts it.buses it.instances)) kept.instances.distinct;
      instances = subst (λ (bits : ℕ). All (IsInstanceOf bits) (netlist_with firsts it).instances) count
          (All-map (IsInstanceOf (bits_with 0 it.buses)) (raw_instance firsts it.buses) it.instances
          (All-weaker (λ (instance : Instance). AreUses it.buses instance.uses)
          (λ (instance : Instance). IsInstanceOf (bits_with 0 it.buses) (raw_instance firsts it.buses instance))
          (instance_within it.buses) it.instances kept.instances.each));
    }

-- the netlist of a whole reading with not too many instances keeps it
pub kept_in : (it : Reading) → IsWhole it → length it.instances < 2 ^ 30 → (result : Result RawNetlist VerilogFault)
    → Gives fault_reported (λ netlist. netlist) result (limited it) → IfOk result IsNetlist
unfolding limited
kept_in it whole few (Err fault) gives = tt
kept_in it whole few (Ok raw) gives = by (nat_lt MOST_BITS (bits_with 0 it.buses)) refl gives
  where
    by : (many : Bool) → nat_lt MOST_BITS (bits_with 0 it.buses) ≡ many
        → cond many (Err (TooManyNets (bits_with 0 it.buses))) (Ok (netlist_with (first_bits 0 it.buses) it)) ≡ Ok raw → IsNetlist raw
    by true is reported = absurd cc
    by false is reported =
        let same : netlist_with (first_bits 0 it.buses) it ≡ raw = cc in
        subst IsNetlist same (netlist_kept it whole.kept whole.over (ltb-false MOST_BITS (bits_with 0 it.buses) is) few)

-- tokens that are read keep it
token_kept : (text : List ℕ) (token : Token) (tokens : List Token) (it last : Reading) (given : Step) → token_step text token it ≡ given
    → IsKept it.place it → ((next : Reading) → IsKept next.place next → tokens_from text next tokens ≡ Ok last → IsKept last.place last)
    → after_step (located (at_token text) (token_step text))
    (elim given as (λ _. Result Reading VerilogFault) [ Ok next ↦ Ok next | Err kind ↦ Err (at_token text token kind) ]) tokens ≡ Ok last
    → IsKept last.place last
token_kept text token tokens it last (Ok next) is kept later read = later next (step_kept _ _ it next kept is) read
token_kept text token tokens it last (Err kind) is kept later read = absurd cc

pub tokens_kept : (text : List ℕ) (tokens : List Token) (it last : Reading) → IsKept it.place it → tokens_from text it tokens ≡ Ok last
    → IsKept last.place last
unfolding steps_from
tokens_kept text [] it last kept read = by it last kept read
  where
    by : (it last : Reading) → IsKept it.place it → ◌≡◌ {A = Result Reading VerilogFault} (Ok it) (Ok last) → IsKept last.place last
    by it last kept is =
        let same : it ≡ last = cc in
        subst (λ (one : Reading). IsKept one.place one) same kept
tokens_kept text (token ∷ tokens) it last kept read =
    token_kept text token tokens it last (token_step text token it) refl kept (λ next. tokens_kept text tokens next last)
    (sym (steps_from-cons (located (at_token text) (token_step text)) it token tokens) ∙ read)

whole_end : (text : List ℕ) (it last : Reading) → IsKept it.place it → (over : Bool) → is_end it.place ≡ over
    → elim over as (λ _. Result Reading VerilogFault) [ true ↦ Ok it | false ↦ Err (At (line_at (length text - 1) text) Syntax) ] ≡ Ok last → IsWhole last
whole_end text it last kept false is reported = absurd cc
whole_end text it last kept true is reported =
    let same : it ≡ last = cc in
    subst (λ (one : Reading). IsWhole one) same (record { kept = kept; over = is })

whole_flaw : (text : List ℕ) (it last : Reading) (flaw : Option Flaw) → IsKept it.place it → ended text (then_flaw text flaw (Ok it)) ≡ Ok last → IsWhole last
whole_flaw text it last None kept reported = whole_end text it last kept (is_end it.place) refl reported
whole_flaw text it last (Some flaw) kept reported = absurd cc

whole_in : (text : List ℕ) (last : Reading) (scan : Scan) (given : Result Reading VerilogFault) → tokens_from text nothing scan.tokens ≡ given
    → ended text (then_flaw text scan.flaw given) ≡ Ok last → IsWhole last
whole_in text last scan (Ok it) read reported = whole_flaw text it last scan.flaw (tokens_kept text scan.tokens nothing it nothing_kept read) reported
whole_in text last scan (Err fault) read reported = absurd (no_reading scan.flaw reported)
  where
    no_reading : (flaw : Option Flaw) → ended text (then_flaw text flaw (Err fault)) ≡ Ok last → ⊥
    no_reading None is = cc
    no_reading (Some flaw) is = cc

pub whole_reading : (text : List ℕ) (last : Reading) → reading_of text ≡ Ok last → IsWhole last
whole_reading text last reported = whole_in text last (scan_of text) (tokens_from text nothing (scan_of text).tokens) refl reported
