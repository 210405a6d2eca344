-- What a simulation of a linked chip answers: the values at its observed outputs.
use Rattle.std.specs.Prelude.{ℕ, ◌+◌, ◌≡◌, ◌≢◌, ◌<◌, ◌↔◌, List, ◌++◌, map, length, slice_index, Option, None}
use Rattle.ca_net.specs.declared.trit.Trit.{Trit}
use Rattle.ca_net.specs.declared.trit.Trit.TheVariants.{X}
use Rattle.ca_net.specs.State.{value_at}
use Rattle.ca_flat.specs.declared.chip_defect.ChipDefect.{ChipDefect}
use Rattle.ca_flat.specs.Chip.{Chip}
use Rattle.ca_flat.specs.Pair.{NetEndsAt}
use Rattle.ca_request.specs.Vectors.{trit_of}

-- the partial pair whose first and last vectors have these letters
abbrev pub pair_of : List ℕ → List ℕ → List Trit
pair_of first last = map trit_of first ++ map trit_of last

-- the value is 0 or 1 exactly where every run of the flat network, good or with the defect, ends with it at
-- the net
abbrev pub IsNetEnd : Chip → Option ChipDefect → List Trit → ℕ → Trit → Type 0
IsNetEnd chip given pair net value = (v : Trit) → ((v ≢ X) × (value ≡ v)) ↔ NetEndsAt chip given pair net v

-- a value for each observed output
pub record AreOutputEnds (chip : Chip) (given : Option ChipDefect) (pair : List Trit) (values : List Trit)
    : Type 0 where
  pub count : length values ≡ length chip.outputs
  pub ends : (o : ℕ) → o < length chip.outputs
      → IsNetEnd chip given pair (slice_index chip.outputs o) (value_at values o)

-- those without the defect, and those with it
pub record AreSimulated (chip : Chip) (given : Option ChipDefect) (pair good faulty : List Trit)
    : Type 0 where
  pub good_ends : AreOutputEnds chip None pair good
  pub faulty_ends : AreOutputEnds chip given pair faulty
