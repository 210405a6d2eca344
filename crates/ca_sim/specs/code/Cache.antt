-- What only proofs of code cite: a cache of what cells give.
use Rattle.std.specs.Prelude.{ℕ, ◌≡◌, List, Option, None, Some}
use Rattle.std.specs.List.{All}
use Rattle.ca_net.specs.declared.wave.Wave.{Wave}
use Rattle.ca_net.specs.Wave.{IsWave}
use Rattle.ca_cell.specs.declared.defect.Defect.{Defect}
use Rattle.ca_response.specs.Gives.{Gives}
use Rattle.ca_flat.specs.Chip.{Chip, cell_at, circuit_at}
use Rattle.ca_flat.specs.Flat.{with_defect}
use Rattle.ca_view.specs.Linked.{IsPlaced}
use Rattle.ca_sim.specs.declared.cache.Entry.{Entry}

-- the cell of the instance, with this defect or without, gives these waves, which are waves
pub record Answers (chip : Chip) (u : ℕ) (defect : Option Defect) (pins outputs : List Wave) : Type 0 where
  pub gives : Gives (cell_at chip u) (with_defect (circuit_at chip u) defect) pins outputs
  pub are_waves : All IsWave outputs

-- a slot that is filled has what its cell gives, at each instance with a cell of that number
abbrev pub HoldsTrue : Chip → (ℕ → ℕ) → (ℕ → ℕ) → Option Entry → Type 0
HoldsTrue chip place_of number_of None = Unit {0}
HoldsTrue chip place_of number_of (Some entry) =
    (u : ℕ) → IsPlaced chip place_of u → number_of u ≡ entry.number
    → Answers chip u entry.defect entry.pins.items entry.outputs.items

-- each slot is
abbrev pub HoldTrue : Chip → (ℕ → ℕ) → (ℕ → ℕ) → List (Option Entry) → Type 0
HoldTrue chip place_of number_of slots = All (HoldsTrue chip place_of number_of) slots

-- nothing is in the slot
abbrev pub IsEmpty : Option Entry → Type 0
IsEmpty slot = slot ≡ None
