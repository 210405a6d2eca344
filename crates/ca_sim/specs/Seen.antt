-- What is seen of a simulator: the waves of the nets for a partial pair, good and with a defect.
use Rattle.std.specs.Prelude.{ℕ, ◌≡◌, ◌<◌, List, length, Option, None, Some, Bool}
use Rattle.ca_net.specs.declared.trit.Trit.{Trit}
use Rattle.ca_net.specs.declared.trit.Trit.TheVariants.{X}
use Rattle.ca_net.specs.declared.wave.Wave.{Wave}
use Rattle.ca_net.specs.Circuit.{IsWellFormed}
use Rattle.ca_response.specs.Gives.{wave_at}
use Rattle.ca_flat.specs.declared.chip_defect.ChipDefect.{ChipDefect}
use Rattle.ca_flat.specs.Chip.{Chip}
use Rattle.ca_flat.specs.Flat.{flat}
use Rattle.ca_flat.specs.Pair.{bit_count}
use Rattle.ca_flat.specs.Codes.{bit_trit}
use Rattle.ca_flat.specs.Waves.{FlatWaves, wave_of}

-- the chip, the places of its instances in the order, the defect that is aimed at, the values of the bits
-- with X where one is unset, and the waves of the nets without a defect and with it
pub record Seen : Type 0 where
  pub chip : Chip
  pub places : List ℕ
  pub aim : Option ChipDefect
  pub pair : List Trit
  pub good : List Wave
  pub faulty : List Wave

-- the value of a bit that is set or unset
abbrev pub value_of : Option Bool → Trit
value_of None = X
value_of (Some value) = bit_trit value

-- a wave for each net: the three limits that the flat network, good or with the defect, has there for the
-- pair
pub record AreNetWaves (chip : Chip) (given : Option ChipDefect) (pair : List Trit) (waves : List Wave)
    : Type 0 where
  pub count : length waves ≡ length chip.nets
  pub exact : (flat_waves : FlatWaves chip given pair) (net : ℕ) → net < length chip.nets
      → wave_at waves net ≡ wave_of flat_waves net

-- there is a wave for each net, and a value for each bit
pub record IsWhole (seen : Seen) : Type 0 where
  pub bits : length seen.pair ≡ bit_count seen.chip
  pub good : length seen.good ≡ length seen.chip.nets
  pub faulty : length seen.faulty ≡ length seen.chip.nets

-- the waves are those of the two flat networks, where these are networks
pub record IsExact (seen : Seen) : Type 0 where
  pub whole : IsWhole seen
  pub good : IsWellFormed (flat seen.chip None) → AreNetWaves seen.chip None seen.pair seen.good
  pub faulty : IsWellFormed (flat seen.chip seen.aim) → AreNetWaves seen.chip seen.aim seen.pair seen.faulty

-- the same, but that this defect is aimed at
abbrev pub aimed_anew : Seen → ChipDefect → Seen
aimed_anew seen defect = record {
  chip = seen.chip;
  places = seen.places;
  aim = Some defect;
  pair = seen.pair;
  good = seen.good;
  faulty = seen.faulty;
}
