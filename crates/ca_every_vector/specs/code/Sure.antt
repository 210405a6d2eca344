-- Words of the code: nets whose good last values are definite under each definite pair.
use Rattle.std.specs.Prelude.{ℕ, ◌≡◌, ◌≢◌, ◌<◌, Bool, List, length, None}
use Rattle.ca_net.specs.declared.trit.Trit.{Trit}
use Rattle.ca_net.specs.declared.trit.Trit.TheVariants.{X}
use Rattle.ca_net.specs.Circuit.{IsWellFormed}
use Rattle.ca_net.specs.State.{value_at}
use Rattle.ca_flat.specs.Chip.{Chip, outputs_at, net_of, output_net}
use Rattle.ca_flat.specs.Flat.{flat}
use Rattle.ca_flat.specs.Pair.{bit_count}
use Rattle.ca_flat.specs.Waves.{FlatWaves}
use Rattle.ca_flat.specs.Detection.{trits_of}
use Rattle.ca_flips.specs.Flips.{lasts_of}

-- so is the net
abbrev pub IsSure : Chip → ℕ → Type 0
IsSure chip net =
    (pair : List Bool) → length pair ≡ bit_count chip
    → (good : FlatWaves chip None (trits_of pair)) → lasts_of good net ≢ X

-- nets with a definite value in the list are so, where the chip's flat network is a network
abbrev pub AreSure : Chip → List Trit → Type 0
AreSure chip values =
    IsWellFormed (flat chip None) → (net : ℕ) → value_at values net ≢ X → IsSure chip net

-- the first input nets of the instance have a definite value
abbrev pub AreSurePins : Chip → List Trit → ℕ → ℕ → Type 0
AreSurePins chip values w end = (pin : ℕ) → pin < end → value_at values (net_of chip w pin) ≢ X

-- its output nets are sure, where the chip's flat network is a network
abbrev pub AreOutputsSure : Chip → ℕ → Type 0
AreOutputsSure chip w =
    IsWellFormed (flat chip None) → (output : ℕ) → output < outputs_at chip w
    → IsSure chip (output_net chip w output)
