-- Which vectors the pairs of a chip may give at the input pins of an instance: those that come first, and
-- those that come last where a flip of its outputs may be seen.
use Rattle.std.specs.Prelude.{ℕ, ◌≡◌, ◌<◌, ◌^◌, ◌⊎◌, Bool, List, length, None}
use Rattle.std.specs.Int.{bit_at}
use Rattle.ca_net.specs.declared.trit.Trit.{Trit}
use Rattle.ca_net.specs.State.{value_at, IsStateBelow}
use Rattle.ca_cell.specs.Row.{vector_of}
use Rattle.ca_flat.specs.Chip.{Chip, inputs_at}
use Rattle.ca_flat.specs.Pair.{bit_count}
use Rattle.ca_flat.specs.Waves.{FlatWaves, wave_of}
use Rattle.ca_flat.specs.TwoFrame.{IsVectorOver}
use Rattle.ca_flat.specs.Detection.{trits_of}
use Rattle.ca_flips.specs.Flips.{AreLastsOf}
use Rattle.ca_sweep.specs.declared.seen.Flips.{Flips}
use Rattle.ca_sweep.specs.Seen.{IsClear, IsSeenFrom}

-- the first values of the nets, whichever states have the good waves
abbrev pub AreFirstsOf : Chip → List Trit → (ℕ → Trit) → Type 0
AreFirstsOf chip pair values =
    (good : FlatWaves chip None pair) (net : ℕ) → net < length chip.nets
    → (wave_of good net).first ≡ values net

-- the bit of the number is set in the mask
abbrev pub Has : ℕ → ℕ → Type 0
Has mask number = bit_at mask number ≡ 1

-- the mask has the number of each vector of the input pins of the instance u
abbrev pub HasAll : Chip → ℕ → ℕ → Type 0
HasAll chip u mask = (number : ℕ) → number < 2 ^ inputs_at chip u → Has mask number

-- it has that of each at or above the values of the instance's input nets
abbrev pub HasAllOver : Chip → ℕ → List Trit → ℕ → Type 0
HasAllOver chip u values mask =
    (number : ℕ) → number < 2 ^ inputs_at chip u
    → IsVectorOver chip u values (vector_of (inputs_at chip u) number) → Has mask number

-- of a partial pair: the vectors at or above its first values
pub record HasFirsts (chip : Chip) (u mask : ℕ) (partial : List Trit) : Type 0 where
  pub values : List Trit
  pub are_firsts : AreFirstsOf chip partial (value_at values)
  pub has : HasAllOver chip u values mask

-- no flip of the outputs of the instance u is seen at an observed output, by last values alone
abbrev pub IsUnseen : Chip → ℕ → List Trit → Type 0
IsUnseen chip u values = (flips : Flips) → IsSeenFrom chip (value_at values) u flips None

-- last values alone say what is seen of flips of the instance u, and these are the vectors at or above the
-- values of its input nets
pub record HasClear (chip : Chip) (u mask : ℕ) (values : List Trit) : Type 0 where
  pub clear : IsClear chip (value_at values) u
  pub has : HasAllOver chip u values mask

-- The mask has all vectors at or above the last values that matter: none need be there where no flip is seen,
-- and all are where last values alone don't say what is seen.
abbrev pub HasAllSeen : Chip → ℕ → List Trit → ℕ → Type 0
HasAllSeen chip u values mask = IsUnseen chip u values ⊎ (HasClear chip u mask values ⊎ HasAll chip u mask)

-- of a partial pair: the vectors at or above its last values
pub record HasLasts (chip : Chip) (u mask : ℕ) (partial : List Trit) : Type 0 where
  pub values : List Trit
  pub are_lasts : AreLastsOf chip partial (value_at values)
  pub has : HasAllSeen chip u values mask

-- some partial pair at or below the pair has it
pub record IsOfBelow (has : List Trit → Type 0) (pair : List Trit) : Type 0 where
  pub partial : List Trit
  pub below : IsStateBelow partial pair
  pub of : has partial

-- each definite pair of the chip has it
abbrev pub IsOfEach : Chip → (List Trit → Type 0) → Type 0
IsOfEach chip has = (pair : List Bool) → length pair ≡ bit_count chip → IsOfBelow has (trits_of pair)

-- the masks have the numbers of all vectors that come first at the input pins of the instance u, and of all
-- that come last where a flip of its outputs may be seen
pub record ArePossible (chip : Chip) (u firsts lasts : ℕ) : Type 0 where
  pub firsts_are : IsOfEach chip (HasFirsts chip u firsts)
  pub lasts_are : IsOfEach chip (HasLasts chip u lasts)
