-- What a text says of its chip; and chips each of whose scan instances is on one chain, once.
use Rattle.std.specs.Prelude.{ℕ, ◌≡◌, ◌<◌, List, [], reverse, Option, Some, slice_get}
use Rattle.std.specs.List.{flat_map}
use Rattle.ca_stil.specs.declared.chip.StilChain.{StilChain}
use Rattle.ca_stil.specs.declared.chip.StilChip.{StilChip}
use Rattle.ca_stil_form.specs.Frame.{Signal, Names, Scan}
use Rattle.ca_stil_form.specs.Value.{stil_value}
use Rattle.ca_stil_form.specs.Whole.{Stil}

-- the signals, the groups that are there, and the number of cells of each chain as its digits
abbrev pub ChipPart : Type 0
ChipPart = List Signal × (Option Names × (Option Names × (Option Scan × List (List ℕ))))

-- those of a text's values
abbrev pub chip_part : Stil → ChipPart
chip_part value = (value.0, (value.1.0, (value.1.1.0, (value.1.1.1.0, value.1.1.1.1.0))))

-- those of a chip
abbrev pub part_of : StilChip → ChipPart
part_of chip = chip_part (stil_value chip [] [])

-- the scan instances in the order of a text: those of each chain, the last one first
abbrev pub order_of : List StilChain → List ℕ
order_of chains = flat_map (λ chain. reverse chain.places) chains

-- each scan instance of the chip is on one of its chains, once
pub record IsCovered (chip : StilChip) : Type 0 where
  pub within : (i place : ℕ) → slice_get (order_of chip.chains) i ≡ Some place → place < chip.scan_count
  pub once : (i j place : ℕ) → slice_get (order_of chip.chains) i ≡ Some place
      → slice_get (order_of chip.chains) j ≡ Some place → i ≡ j
  pub each : (place : ℕ) → place < chip.scan_count
      → (i : ℕ) × (slice_get (order_of chip.chains) i ≡ Some place)
