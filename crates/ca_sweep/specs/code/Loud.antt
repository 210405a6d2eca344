-- What only proofs of code cite: which codes flip an output pin.
use Rattle.std.specs.Prelude.{ℕ, ◌/◌, ◌%◌, ◌≡◌, ◌<◌, false, List, length, slice_index}
use Rattle.ca_planes.specs.Plane.{has_lane}
use Rattle.ca_flips.specs.Flips.{IsOpposite}
use Rattle.ca_sweep.specs.declared.codes.Goods.{Goods}
use Rattle.ca_sweep.specs.code.Digits.{trit_of}

-- no output pin with these good last values is flipped by the code
pub record FlipsNone (goods : Goods) (code : ℕ) : Type 0 where
  pub first : ¬ (IsOpposite goods.first (trit_of (code % 4)))
  pub second : ¬ (IsOpposite goods.second (trit_of (code / 4)))

-- so it is with each of the first 64 codes that isn't marked
abbrev pub AreLoud : List ℕ → Goods → ℕ → Type 0
AreLoud codes goods loud = (place : ℕ) → place < 64 → place < length codes
    → has_lane loud place ≡ false → FlipsNone goods (slice_index codes place)
