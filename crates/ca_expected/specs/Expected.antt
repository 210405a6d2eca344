-- What a good chip ends with at its observed outputs.
use Rattle.std.specs.Prelude.{ℕ, ◌≡◌, ◌<◌, Bool, List, [], length, slice_index, slice_index_or, None}
use Rattle.ca_net.specs.declared.trit.Trit.{Trit}
use Rattle.ca_net.specs.State.{value_at}
use Rattle.ca_flat.specs.Chip.{Chip}
use Rattle.ca_code.specs.Filled.{trits_of}
use Rattle.ca_credit.specs.Detection.{IsNetEnd}

-- a value for each observed output, under a partial pair: 0 or 1 exactly where every run of the good flat
-- network ends with it there
pub record AreGoodEnds (chip : Chip) (pair values : List Trit) : Type 0 where
  pub count : length values ≡ length chip.outputs
  pub each : (o : ℕ) → o < length chip.outputs
      → IsNetEnd chip None pair (slice_index chip.outputs o) (value_at values o)

-- such values for each pair
pub record AreExpected (chip : Chip) (pairs : List (List Bool)) (rows : List (List Trit)) : Type 0 where
  pub count : length rows ≡ length pairs
  pub each : (place : ℕ) → place < length pairs
      → AreGoodEnds chip (trits_of (slice_index_or pairs place [])) (slice_index_or rows place [])
