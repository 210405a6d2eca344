-- Lists that are underway. Only the proofs of the code cite this.
use Rattle.std.specs.Prelude.{ℕ, ◌≡◌, ◌<◌, Bool, List, [], length, slice_index, slice_index_or, None}
use Rattle.ca_net.specs.declared.trit.Trit.{Trit}
use Rattle.ca_net.specs.State.{value_at}
use Rattle.ca_flat.specs.Chip.{Chip}
use Rattle.ca_code.specs.Filled.{trits_of}
use Rattle.ca_credit.specs.Detection.{IsNetEnd}
use Rattle.ca_expected.specs.Expected.{AreGoodEnds}

-- the values at the first observed outputs
pub record AreFirstEnds (chip : Chip) (pair : List Trit) (count : ℕ) (values : List Trit) : Type 0 where
  pub room : length values ≡ count
  pub each : (o : ℕ) → o < count → IsNetEnd chip None pair (slice_index chip.outputs o) (value_at values o)

-- those of the first pairs
pub record AreFirstRows (chip : Chip) (pairs : List (List Bool)) (count : ℕ) (rows : List (List Trit))
    : Type 0 where
  pub room : length rows ≡ count
  pub each : (place : ℕ) → place < count
      → AreGoodEnds chip (trits_of (slice_index_or pairs place [])) (slice_index_or rows place [])
