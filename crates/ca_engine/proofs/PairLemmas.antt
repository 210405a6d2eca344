-- The bits of a pair as values.
use Rattle.std.proofs.Common.{◌≡◌, ℕ, zero, suc, List, [], ◌∷◌, length, Bool, Some, slice_get, ap}
use Rattle.std.proofs.lemmas.List.{length-map}
use Rattle.ca_net.specs.State.{value_at}
use Rattle.ca_flat.specs.Codes.{bit_trit}
use Rattle.ca_code.specs.Filled.{trits_of}

-- the value of a bit
pub trit_at : (pair : List Bool) (bit : ℕ) (value : Bool) → slice_get pair bit ≡ Some value
    → value_at (trits_of pair) bit ≡ bit_trit value
trit_at [] bit value is = cc
trit_at (b ∷ pair) zero value is = ap bit_trit (let same : b ≡ value = cc in same)
trit_at (b ∷ pair) (suc bit) value is = trit_at pair bit value is

-- as many values as bits
pub count_of_trits : (pair : List Bool) → length (trits_of pair) ≡ length pair
count_of_trits pair = length-map pair bit_trit
