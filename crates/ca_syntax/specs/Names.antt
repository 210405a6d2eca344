-- What names are declared as.
use Rattle.std.specs.Prelude.{ℕ, Bool, not, ◌&&◌, if◌then◌else◌, List, [], ◌∷◌, map, fold}
use Rattle.std.specs.Prelude.{Option, None}
use Rattle.std.specs.List.{list_any}
use Rattle.std.specs.Str.{bytes_eq}
use Rattle.ca_names.specs.Names.{has_name, with_name}
use Rattle.ca_verilog.specs.declared.table.Direction.{Direction}
use Rattle.ca_verilog.specs.declared.table.Direction.TheVariants as direction
use Rattle.ca_verilog.specs.declared.table.Range.{Range}
use Rattle.ca_verilog.specs.Bus.{is_inner}
use Rattle.ca_syntax.specs.Tree.{Declared}

-- each name once, where it occurs first
abbrev pub each_once : List (List ℕ) → List (List ℕ)
each_once names = fold (λ seen name. with_name name seen) [] names

-- the declared names, each once, where it is declared first
abbrev pub names_in : List Declared → List (List ℕ)
names_in declared = each_once (map (λ it. it.name) declared)

-- the name is declared
abbrev pub is_declared : List ℕ → List Declared → Bool
is_declared name declared = has_name name (map (λ it. it.name) declared)

-- this declares the name as input or output
abbrev pub directs : List ℕ → Declared → Bool
directs name it = bytes_eq name it.name && not (is_inner it.direction)

-- the name is declared as input or output
abbrev pub is_directed : List ℕ → List Declared → Bool
is_directed name declared = list_any (directs name) declared

-- the name is declared as `wire`
abbrev pub is_wire : List ℕ → List Declared → Bool
is_wire name declared = list_any (λ it. bytes_eq name it.name && is_inner it.direction) declared

-- the direction that a name is declared with; one that is a `wire` alone is inner
abbrev pub direction_of : List ℕ → List Declared → Direction
direction_of name [] = direction.Inner
direction_of name (it ∷ more) = if directs name it then it.direction else direction_of name more

-- the range that a name is declared with first, if it is a vector
abbrev pub range_of : List ℕ → List Declared → Option Range
range_of name [] = None
range_of name (it ∷ more) = if bytes_eq name it.name then it.range else range_of name more
