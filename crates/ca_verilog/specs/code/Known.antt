-- What the code keeps beside the names that it read.
use Rattle.std.specs.Prelude.{ℕ, ◌≡◌, List}
use Rattle.ca_names.specs.Names.{has_name}

-- a set has the names of a list, and no others
abbrev pub Knows : List (List ℕ) → List (List ℕ) → Type 0
Knows set listed = (name : List ℕ) → has_name name set ≡ has_name name listed
