-- Words of the code beside those of `specs/ChipDefects.antt`. Private functions and proofs cite them.
use Rattle.std.specs.Prelude.{ℕ, zero, suc, List, [], ◌∷◌, ◌++◌}
use Rattle.ca_flat.specs.Chip.{Chip, count_of}
use Rattle.ca_view.specs.Linked.{place_in}

-- the instance u, if its place isn't 0
abbrev pub if_placed : ℕ → ℕ → List ℕ
if_placed zero u = []
if_placed (suc place) u = u ∷ []

-- of the first `count` instances those that have a place, in order
unfoldable pub placed_before : List ℕ → ℕ → List ℕ
placed_before places zero = []
placed_before places (suc u) = placed_before places u ++ if_placed (place_in places u) u

-- the instances of a chip that have a place in the order
abbrev pub placed_instances : Chip → List ℕ → List ℕ
placed_instances chip places = placed_before places (count_of chip)
