-- The cells that the library instances of a chip use, each once, in the order of their first instances.
use Rattle.std.specs.Prelude.{ℕ, ◌≡◌, if◌then◌else◌, List, [], ◌∷◌, ◌++◌, Some, slice_get}
use Rattle.ca_linked.specs.Linked.{Body, Gate, Scan, Part, LinkedChip, has}

-- these places of the library, and after them that of an instance's cell if it is a new one
abbrev pub with_cell : List ℕ → Body → List ℕ
with_cell places (Gate cell inputs outputs) = if has places cell then places else places ++ cell ∷ []
with_cell places (Scan nets) = places

-- these places, and those of the cells of more instances
abbrev pub used_from : List ℕ → List Part → List ℕ
used_from places [] = places
used_from places (part ∷ more) = used_from (with_cell places part.body) more

-- the places in the library of the cells that library instances use
abbrev pub used_cells : LinkedChip → List ℕ
used_cells chip = used_from [] chip.parts

-- the instance is of the library cell whose place has this number
abbrev pub IsOfUsedCell : List ℕ → ℕ → Body → Type 0
IsOfUsedCell used number (Gate cell inputs outputs) = slice_get used number ≡ Some cell
IsOfUsedCell used number (Scan nets) = ⊥
