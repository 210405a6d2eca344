-- The first expected value that the good chip doesn't end with.
use Rattle.std.specs.Prelude.{ℕ, ◌<◌, Bool, List, [], length, slice_index, slice_index_or, None}
use Rattle.ca_net.specs.declared.trit.Trit.{Trit}
use Rattle.ca_net.specs.State.{value_at}
use Rattle.ca_flat.specs.Chip.{Chip}
use Rattle.ca_code.specs.Filled.{trits_of}
use Rattle.ca_credit.specs.Detection.{IsNetEnd}
use Rattle.ca_expected.specs.declared.wrong.WrongValue.{WrongValue}
use Rattle.ca_expected.specs.Expected.{AreGoodEnds}

-- the value is what the good chip ends with at the observed output: 0 or 1, or X where it ends with neither
abbrev pub IsRightAt : Chip → List Trit → List Trit → ℕ → Type 0
IsRightAt chip pair values output =
    IsNetEnd chip None pair (slice_index chip.outputs output) (value_at values output)

-- it isn't at this output, and it is at each before
pub record IsWrongFrom (chip : Chip) (pair values : List Trit) (output : ℕ) : Type 0 where
  pub within : output < length chip.outputs
  pub before : (o : ℕ) → o < output → IsRightAt chip pair values o
  pub here : ¬ (IsRightAt chip pair values output)

-- under this pair some value is wrong, and this is the first output at which one is; under each pair before
-- all are right
pub record IsFirstWrong (chip : Chip) (pairs : List (List Bool)) (rows : List (List Trit))
    (wrong : WrongValue) : Type 0 where
  pub within : wrong.pair < length pairs
  pub before : (place : ℕ) → place < wrong.pair
      → AreGoodEnds chip (trits_of (slice_index_or pairs place [])) (slice_index_or rows place [])
  pub here : IsWrongFrom chip (trits_of (slice_index_or pairs wrong.pair []))
      (slice_index_or rows wrong.pair []) wrong.output
