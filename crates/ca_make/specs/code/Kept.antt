-- What the code keeps of the loads, apart from the texts.
use Rattle.std.specs.Prelude.{ℕ, ◌≡◌, ◌<◌, Bool, true, false, List, length, slice_index_or, slice_set}
use Rattle.ca_make.specs.declared.gate.Gate.{Gate}
use Rattle.ca_make.specs.declared.gate.Gate.TheVariants as gate
use Rattle.ca_make.specs.Chip.{is_loaded}

-- the marks with those of the inputs of a gate
abbrev pub marked_by : Gate → List Bool → List Bool
marked_by (gate.Inv a) loads = slice_set loads a true
marked_by (gate.Nand2 a b) loads = slice_set (slice_set loads a true) b true
marked_by (gate.Nor2 a b) loads = slice_set (slice_set loads a true) b true

-- for each of the first candidates, as many as this, whether it has a load
abbrev pub AreLoads : List Gate → ℕ → List Bool → Type 0
AreLoads gates candidates loads = (length loads ≡ candidates)
    × ((place : ℕ) → place < candidates → slice_index_or loads place false ≡ is_loaded gates place)
