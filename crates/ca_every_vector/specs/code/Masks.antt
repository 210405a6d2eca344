-- Masks of vectors, one for each instance.
use Rattle.std.specs.Prelude.{ℕ, ◌≡◌, ◌<◌, List, length, slice_index, None}
use Rattle.ca_net.specs.declared.trit.Trit.{Trit}
use Rattle.ca_net.specs.Circuit.{IsWellFormed}
use Rattle.ca_net.specs.State.{value_at}
use Rattle.ca_cell.specs.Row.{vector_of}
use Rattle.ca_cell.specs.declared.row.Row.{Row}
use Rattle.ca_flat.specs.Chip.{Chip, inputs_at, net_of}
use Rattle.ca_flat.specs.Flat.{flat}
use Rattle.ca_flat.specs.TwoFrame.{IsVectorOver}
use Rattle.ca_net.specs.Trit.{IsBelow}
use Rattle.ca_view.specs.Linked.{IsPlaced}
use Rattle.ca_every_vector.specs.Possible.{Has, HasAllOver, HasAllSeen, HasFirsts, HasLasts, ArePossible}
use Rattle.ca_every_vector.specs.Vectors.{first_set, last_set}

-- the mask of an instance
abbrev pub mask_at : List ℕ → ℕ → ℕ
mask_at masks u = slice_index masks u

-- what was in the masks is in them
pub record AreMore (old new : List ℕ) : Type 0 where
  pub room : length new ≡ length old
  pub each : (u number : ℕ) → Has (mask_at old u) number → Has (mask_at new u) number

-- what is in the rows is in the mask of the instance
abbrev pub IsAdded : ℕ → ℕ → List ℕ → Type 0
IsAdded u rows masks = (number : ℕ) → Has rows number → Has (mask_at masks u) number

-- the vector of the number is at or above the values of the nets of the first pins of the instance u
abbrev pub IsOverPins : Chip → ℕ → List Trit → ℕ → ℕ → Type 0
IsOverPins chip u values number count = (pin : ℕ) → pin < count
    → IsBelow (value_at values (net_of chip u pin)) (value_at (vector_of (inputs_at chip u) number) pin)

-- the mask has all vectors below a number that are at or above the values
abbrev pub HasAllBelow : Chip → ℕ → List Trit → ℕ → ℕ → Type 0
HasAllBelow chip u values end mask =
    (number : ℕ) → number < end → IsVectorOver chip u values (vector_of (inputs_at chip u) number)
    → Has mask number

-- of the instances before one the masks have all vectors at or above the values
abbrev pub HaveAllOver : Chip → (ℕ → ℕ) → List Trit → ℕ → List ℕ → Type 0
HaveAllOver chip place_of values end masks =
    (u : ℕ) → u < end → IsPlaced chip place_of u → HasAllOver chip u values (mask_at masks u)

-- of the instances before one they have all that matter
abbrev pub HaveAllSeen : Chip → (ℕ → ℕ) → List Trit → ℕ → List ℕ → Type 0
HaveAllSeen chip place_of values end masks =
    (u : ℕ) → u < end → IsPlaced chip place_of u → HasAllSeen chip u values (mask_at masks u)

-- of each instance the mask has what first vectors with lower numbers give, where the chip's flat network is
-- a network
abbrev pub HaveFirsts : Chip → (ℕ → ℕ) → ℕ → List ℕ → Type 0
HaveFirsts chip place_of end masks =
    IsWellFormed (flat chip None) → (number u : ℕ) → number < end → IsPlaced chip place_of u
    → HasFirsts chip u (mask_at masks u) (first_set (length chip.inputs) number)

-- of each instance the mask has what last vectors with lower numbers give, where it is one
abbrev pub HaveLasts : Chip → (ℕ → ℕ) → ℕ → List ℕ → Type 0
HaveLasts chip place_of end masks =
    IsWellFormed (flat chip None) → (number u : ℕ) → number < end → IsPlaced chip place_of u
    → HasLasts chip u (mask_at masks u) (last_set (length chip.inputs) number)

-- what masks of all instances are good for: those of each instance that has one have all possible vectors
abbrev pub IsTable : Chip → (ℕ → ℕ) → List ℕ → List ℕ → Type 0
IsTable chip place_of firsts lasts =
    IsWellFormed (flat chip None) → (u : ℕ) → IsPlaced chip place_of u → u < length firsts
    → u < length lasts → ArePossible chip u (mask_at firsts u) (mask_at lasts u)

-- the row isn't in the masks
abbrev pub IsRowOut : ℕ → ℕ → Row → Type 0
IsRowOut firsts lasts row = Has firsts row.first → Has lasts row.last → ⊥
