-- Declared names, in declaration order.
use Rattle.std.specs.Prelude.{ℕ, ◌==◌, Bool, true, false, not, ◌&&◌, List, [], ◌∷◌, ◌++◌, map, slice_get}
use Rattle.std.specs.Prelude.{slice_set, Option, Some, None, Result, Ok, Err}
use Rattle.ca_lex.specs.Reading.{unless}
use Rattle.ca_verilog.specs.declared.bus.Bus.{Bus}
use Rattle.ca_verilog.specs.declared.fault.VerilogKind.{VerilogKind}
use Rattle.ca_verilog.specs.declared.fault.VerilogKind.TheVariants.{Undeclared, DoubleName, BadRange}
use Rattle.ca_verilog.specs.declared.table.Direction.{Direction}
use Rattle.ca_verilog.specs.declared.table.Direction.TheVariants as direction
use Rattle.ca_verilog.specs.declared.table.Range.{Range}
use Rattle.ca_names.specs.Names.{has_name, place_of}

-- no direction of a port
abbrev pub is_inner : Direction → Bool
is_inner direction.Inner = true
is_inner _ = false

-- the same numbers, or none
abbrev pub same_range : Option Range → Option Range → Bool
same_range None None = true
same_range (Some first) (Some second) = first.left == second.left && first.right == second.right
same_range _ _ = false

-- the place of a declared name
abbrev pub bus_of : List ℕ → List Bus → Option ℕ
bus_of name buses = place_of name (map (λ bus. bus.name) buses)

-- the name has such a declaration already
abbrev pub is_twice : Direction → Bus → Bool
is_twice direction.Inner bus = bus.is_wire
is_twice _ bus = not (is_inner bus.direction)

-- a name by its first declaration
abbrev pub new_bus : Direction → Option Range → List ℕ → Bus
new_bus direction range name = record {
  name = name;
  direction = direction;
  is_wire = is_inner direction;
  range = range;
}

-- a name with a further declaration
abbrev pub declared_again : Direction → Bus → Bus
declared_again direction.Inner bus = record bus { is_wire = true }
declared_again direction bus = record bus { direction = direction }

-- the names, of which the one at the place is declared again
abbrev pub again_at : Direction → Option Range → List Bus → ℕ → Option Bus → Result (List Bus) VerilogKind
again_at direction range buses place None = Err Undeclared
again_at direction range buses place (Some bus) =
    unless (is_twice direction bus) DoubleName
    (unless (not (same_range range bus.range)) BadRange
    (Ok (slice_set buses place (declared_again direction bus))))

-- a declaration of a name: a direction is for a name of the header, and none is declared twice
unfoldable pub declare :
    Direction → Option Range → List ℕ → List (List ℕ) → List Bus → Result (List Bus) VerilogKind
declare direction range name ports buses =
    unless (not (is_inner direction) && not (has_name name ports)) Undeclared
    (elim (bus_of name buses) [
      | None ↦ Ok (buses ++ new_bus direction range name ∷ [])
      | Some place ↦ again_at direction range buses place (slice_get buses place)
    ])

-- a declared name has a direction
abbrev pub is_directed : Option Bus → Bool
is_directed None = false
is_directed (Some bus) = not (is_inner bus.direction)

-- a name of the header has a direction
abbrev pub has_direction : List Bus → List ℕ → Bool
has_direction buses name = elim (bus_of name buses) [
  | None ↦ false
  | Some place ↦ is_directed (slice_get buses place)
]

-- the range of a declared name, if it is a vector
abbrev pub range_of : Option Bus → Option Range
range_of None = None
range_of (Some bus) = bus.range

-- the range of the declared name at a place
abbrev pub range_at : ℕ → List Bus → Option Range
range_at place buses = range_of (slice_get buses place)
