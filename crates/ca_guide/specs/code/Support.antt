-- The bits of the support, from what two floods have reached.
use Rattle.std.specs.Prelude.{ℕ, ◌+◌, ◌≡◌, ◌<◌, ◌⊎◌, ◌↔◌, Bool, true, false}
use Rattle.std.specs.Prelude.{List, length, slice_get, slice_index_or, Some}
use Rattle.std.specs.List.{Contains}

-- the outputs are the reached nets that are observed
abbrev pub AreObserved : List Bool → List ℕ → List ℕ → Type 0
AreObserved observed reached outputs =
    (net : ℕ) → Contains outputs net ↔ (Contains reached net × (slice_index_or observed net false ≡ true))

-- the bit is one of the two of an input whose net leads to an output
pub record IsLeadingBit (inputs leading : List ℕ) (bit : ℕ) : Type 0 where
  pub place : ℕ
  pub net : ℕ
  pub is_input : slice_get inputs place ≡ Some net
  pub is_bit : (bit ≡ place) ⊎ (bit ≡ length inputs + place)
  pub leads : Contains leading net

-- the bits are all of these
abbrev pub AreSupportBits : List ℕ → List ℕ → List ℕ → Type 0
AreSupportBits inputs leading bits = (bit : ℕ) → Contains bits bit ↔ IsLeadingBit inputs leading bit

-- the bit is `from` after one of the first places, the net of whose input leads to an output
pub record IsBitAfter (inputs leading : List ℕ) (from places bit : ℕ) : Type 0 where
  pub place : ℕ
  pub before : place < places
  pub is_bit : bit ≡ from + place
  pub leads : Contains leading (slice_index_or inputs place 0)

-- these bits have come to the old ones
abbrev pub AddsBits : List ℕ → List ℕ → ℕ → ℕ → List ℕ → List ℕ → Type 0
AddsBits inputs leading from places old new =
    (bit : ℕ) → Contains new bit ↔ (Contains old bit ⊎ IsBitAfter inputs leading from places bit)
