-- What only proofs of code cite: tables of the cells of instances that are found one by one.
use Rattle.std.specs.Prelude.{ℕ, ◌≡◌, ◌<◌, List, length, slice_index_or, Option, None}
use Rattle.ca_net.specs.declared.wave.Wave.{Wave}
use Rattle.ca_flat.specs.Chip.{Chip, cell_at}
use Rattle.ca_view.specs.Linked.{IsPlaced}
use Rattle.ca_static.specs.LastTable.{IsTableWhereStatic}

-- the table is that of each instance whose cell has the number
abbrev pub FitsNumber : Chip → (ℕ → ℕ) → (ℕ → ℕ) → ℕ → Option (List (List Wave)) → Type 0
FitsNumber chip place_of number_of number table =
    (u : ℕ) → IsPlaced chip place_of u → number_of u ≡ number → IsTableWhereStatic (cell_at chip u) table

-- the first `count` numbers have their tables
pub record AreTablesTo (chip : Chip) (place_of number_of : ℕ → ℕ) (count : ℕ)
    (tables : List (Option (List (List Wave)))) : Type 0 where
  pub room : length tables ≡ count
  pub each : (number : ℕ) → number < count
      → FitsNumber chip place_of number_of number (slice_index_or tables number None)
