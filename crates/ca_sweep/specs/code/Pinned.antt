-- What only proofs of code cite: marks of the nets on pins of instances with a place.
use Rattle.std.specs.Prelude.{ℕ, ◌+◌, ◌≡◌, ◌<◌, Bool, true, false, List, slice_index_or}
use Rattle.ca_flat.specs.Chip.{Chip, inputs_at, outputs_at, net_of}
use Rattle.ca_view.specs.Linked.{IsPlaced}

-- the nets on pins of instances with a place are marked
abbrev pub ArePinnedMarked : Chip → (ℕ → ℕ) → List Bool → Type 0
ArePinnedMarked chip place_of marks =
    (u pin : ℕ) → IsPlaced chip place_of u → pin < inputs_at chip u + outputs_at chip u
    → slice_index_or marks (net_of chip u pin) false ≡ true

-- the nets on the first pins of an instance, this many, are marked
abbrev pub ArePinsMarked : Chip → ℕ → ℕ → List Bool → Type 0
ArePinsMarked chip u count marks =
    (pin : ℕ) → pin < count → slice_index_or marks (net_of chip u pin) false ≡ true

-- what was marked is
abbrev pub AreKept : List Bool → List Bool → Type 0
AreKept old new = (net : ℕ) → slice_index_or old net false ≡ true → slice_index_or new net false ≡ true
