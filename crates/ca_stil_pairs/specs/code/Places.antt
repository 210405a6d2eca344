-- From the order of a text to that of the places: the bits of a pair, and its expected values.
use Rattle.std.specs.Prelude.{ℕ, ◌≡◌, ◌+◌, ◌<◌, Bool, false, List, ◌++◌, length, map, Some, slice_get}
use Rattle.std.specs.Prelude.{get_or}
use Rattle.ca_net.specs.declared.trit.Trit.{Trit}
use Rattle.ca_net.specs.declared.trit.Trit.TheVariants.{X}
use Rattle.ca_stil.specs.declared.chip.StilChip.{StilChip}
use Rattle.ca_stil.specs.Chip.{part}
use Rattle.ca_stil_read.specs.declared.pair.TextPair.{TextPair}
use Rattle.ca_stil_pairs.specs.Chip.{order_of}

-- `sites` has, for each of the first `count` of an order's entries, the place of its number
pub record AreSitesUpTo (order : List ℕ) (count scans : ℕ) (sites : List ℕ) : Type 0 where
  pub room : length sites ≡ scans
  pub at : (i place : ℕ) → i < count → slice_get order i ≡ Some place → get_or sites place 0 ≡ i

abbrev pub AreSites : List ℕ → ℕ → List ℕ → Type 0
AreSites order scans sites = AreSitesUpTo order (length order) scans sites

-- how many cells the chains have together
abbrev pub cell_count : StilChip → ℕ
cell_count chip = length (order_of chip.chains)

-- the values from a place on that stand at these sites
abbrev pub sited : {Value : Type 0} → Value → ℕ → List ℕ → List Value → List Value
sited other from sites values = map (λ site. get_or values (from + site) other) sites

-- the bits of a pair by place, from those of its text: the first vector, and then the second
abbrev pub bits_from : ℕ → ℕ → List ℕ → List Bool → List Bool
bits_from ports cells sites bits =
    part cells ports bits ++ (sited false 0 sites bits
    ++ (part (cells + ports + cells) ports bits ++ sited false (cells + ports) sites bits))

-- the expected values by place
abbrev pub levels_from : ℕ → List ℕ → List Trit → List Trit
levels_from outputs sites levels = part 0 outputs levels ++ sited X outputs sites levels

-- those of a text's pair, for a chip
abbrev pub chip_bits : StilChip → List ℕ → TextPair → List Bool
chip_bits chip sites pair = bits_from (length chip.inputs) (cell_count chip) sites pair.bits

abbrev pub chip_levels : StilChip → List ℕ → TextPair → List Trit
chip_levels chip sites pair = levels_from (length chip.outputs) sites pair.levels

-- the text's pair has a bit for each chip input and each cell in both vectors, and a value for each observed
-- output and each cell
pub record IsPairFor (chip : StilChip) (pair : TextPair) : Type 0 where
  pub bits : length pair.bits
      ≡ (cell_count chip + length chip.inputs) + (cell_count chip + length chip.inputs)
  pub levels : length pair.levels ≡ length chip.outputs + cell_count chip
