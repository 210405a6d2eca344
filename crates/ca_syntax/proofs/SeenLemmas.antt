-- What the reading keeps of a tree, and where a name of it is found.
use Rattle.std.proofs.Common.{◌≡◌, ℕ, List, ◌++◌, map, true, Option, Some, None, refl, sym, ap, ◌∙◌}
use Rattle.std.specs.Prelude.{option_map, unwrap_or, slice_get, ⊤}
use Rattle.ca_lex.specs.Words.{upper_case}
use Rattle.ca_verilog.specs.declared.bus.Bus.{Bus}
use Rattle.ca_verilog.specs.declared.instance.Operand as reader
use Rattle.ca_verilog.specs.declared.instance.Operand.TheVariants as operand
use Rattle.ca_verilog.specs.declared.instance.Join.{Join}
use Rattle.ca_verilog.specs.declared.instance.Use.{Use}
use Rattle.ca_verilog.specs.declared.instance.Instance as placed
use Rattle.ca_verilog.specs.declared.table.Place.{Place}
use Rattle.ca_verilog.specs.declared.table.Range.{Range}
use Rattle.ca_verilog.specs.Bus.{bus_of, range_at, range_of as bus_range}
use Rattle.ca_verilog.specs.Reading.{Hand, Reading, has_index, width_in, width_of as reader_width}
use Rattle.ca_verilog.proofs.PlaceLemmas.{got_map, place_reported}
use Rattle.ca_syntax.specs.Tree.{Operand, Connection, Assign, Instance, Declared}
use Rattle.ca_syntax.specs.Names.{names_in, is_declared, range_of}
use Rattle.ca_syntax.specs.Rules.{IsRightOperand, IsIndexOf, width_of}
use Rattle.ca_syntax.specs.TreeNetlist.{port_of}
use Rattle.ca_syntax.proofs.NameLemmas as names
use Rattle.ca_syntax.proofs.DeclareLemmas.{seen_bus, seen_buses, bus_found, place_seen}

-- an operand, where these are all declarations
abbrev pub seen_operand : List Declared → Operand → reader.Operand
seen_operand whole (Operand.whole name) = operand.Whole (port_of whole name)
seen_operand whole (Operand.bit name index) = operand.Bit (port_of whole name) index
seen_operand whole (Operand.constant value) = operand.Constant value

abbrev pub seen_join : List Declared → Assign → Join
seen_join whole it = record { left = seen_operand whole it.left; right = seen_operand whole it.right }

abbrev pub seen_use : List Declared → Connection → Use
seen_use whole it = record { pin = upper_case it.pin; operand = option_map (seen_operand whole) it.value }

abbrev pub seen_instance : List Declared → Instance → placed.Instance
seen_instance whole it = record {
  name = it.name;
  cell = upper_case it.cell;
  uses = map (seen_use whole) it.connections;
}

-- the reading at a place, after these declarations, `assign`s and instances
abbrev pub state : List Declared → List (List ℕ) → List Declared → List Assign → List Instance → Place → Hand → Reading
state whole ports declared assigned instances at hand = record {
  place = at;
  ports = ports;
  buses = seen_buses declared;
  joins = map (seen_join whole) assigned;
  instances = map (seen_instance whole) instances;
  hand = hand;
}

-- a declared name is found where it is among all
pub record IsFoundIn (whole declared : List Declared) (name : List ℕ) : Type 0 where
  pub here : bus_of name (seen_buses declared) ≡ Some (port_of whole name)
  pub there : slice_get (names_in whole) (port_of whole name) ≡ Some name
  pub range : range_at (port_of whole name) (seen_buses declared) ≡ range_of name declared

pub found_in : (whole declared later : List Declared) (name : List ℕ) → whole ≡ declared ++ later → is_declared name declared ≡ true
    → IsFoundIn whole declared name
found_in whole declared later name is has =
    let found = place_seen name declared has in
    let there : slice_get (names_in whole) found.0 ≡ Some name =
    ap (λ (all : List Declared). slice_get (names_in all) found.0) is
    ∙ ap (λ (listed : List (List ℕ)). slice_get listed found.0) (names.names_more declared later)
    ∙ names.got_once (names_in declared) (names.all_names later) name found.0 found.1 in
    let same : port_of whole name ≡ found.0 =
    ap (λ (at : Option ℕ). unwrap_or at 0) (place_reported (names_in whole) (names.names_distinct whole) found.0 name there) in
    record {
      here = bus_found name declared ∙ found.2 ∙ ap (λ (at : ℕ). Some at) (sym same);
      there = ap (λ (at : ℕ). slice_get (names_in whole) at) same ∙ there;
      range = ap (λ (at : ℕ). range_at at (seen_buses declared)) same
          ∙ ap bus_range (got_map (seen_bus declared) (names_in declared) found.0 name found.1);
    }

-- the operand is of declared names, to the reading
abbrev pub IsSeen : List Declared → List Bus → Operand → Type 0
IsSeen whole buses (Operand.whole name) = bus_of name buses ≡ Some (port_of whole name)
IsSeen whole buses (Operand.bit name index) = (bus_of name buses ≡ Some (port_of whole name))
    × ((range : Range) × (range_at (port_of whole name) buses ≡ Some range) × (has_index index range ≡ true))
IsSeen whole buses (Operand.constant value) = ⊤

index_seen : (index : ℕ) (given ranges : Option Range) → given ≡ ranges → IsIndexOf index ranges
    → (range : Range) × (given ≡ Some range) × (has_index index range ≡ true)
index_seen index given None is right = absurd right
index_seen index given (Some range) is right = (range, is, right)

pub operand_seen : (whole declared later : List Declared) (it : Operand) → whole ≡ declared ++ later → IsRightOperand declared it
    → IsSeen whole (seen_buses declared) it
operand_seen whole declared later (Operand.whole name) is right = (found_in whole declared later name is right).here
operand_seen whole declared later (Operand.bit name index) is right =
    let found : IsFoundIn whole declared name = found_in whole declared later name is right.0 in
    (found.here, index_seen index (range_at (port_of whole name) (seen_buses declared)) (range_of name declared) found.range right.1)
operand_seen whole declared later (Operand.constant value) is right = tt

-- an operand has the tree's width
pub width_seen : (whole declared later : List Declared) (it : Operand) → whole ≡ declared ++ later → IsRightOperand declared it
    → reader_width (seen_buses declared) (seen_operand whole it) ≡ width_of declared it
width_seen whole declared later (Operand.whole name) is right = ap width_in (found_in whole declared later name is right).range
width_seen whole declared later (Operand.bit name index) is right = refl
width_seen whole declared later (Operand.constant value) is right = refl
