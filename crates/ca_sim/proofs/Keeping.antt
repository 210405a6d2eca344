-- What a simulator keeps gives the waves of the flat networks.
use Rattle.std.proofs.Common.{ℕ, List, Option, None, Some}
use Rattle.ca_flat.specs.declared.chip_defect.ChipDefect.{ChipDefect}
use Rattle.ca_flat.specs.Chip.{Chip, IsChipDefect}
use Rattle.ca_view.specs.Linked.{IsAim}
use Rattle.ca_sim.specs.Seen.{IsExact}
use Rattle.ca_sim.specs.declared.cells.Cells.{Cells}
use Rattle.ca_sim.specs.declared.networks.Networks.{Networks}
use Rattle.ca_sim.specs.declared.loaded.Loaded.{Loaded}
use Rattle.ca_sim.specs.code.Kept.{IsKept}
use Rattle.ca_sim.proofs.Exact.{waves_are_exact_lem}

-- the defect that is aimed at is the chip's
pub aim_listed : (chip : Chip) (place_of : ℕ → ℕ) (aim : Option ChipDefect) → IsAim chip place_of aim → IsChipDefect chip aim
aim_listed chip place_of None is = tt
aim_listed chip place_of (Some defect) is = is.defect_is

-- the waves are exact
pub kept_is_exact : (chip : Chip) (places : List ℕ) (place_of number_of : ℕ → ℕ) (aim : Option ChipDefect) (nets : Networks) (unset loaded : Loaded) (cells : Cells)
    → IsKept chip place_of number_of aim nets unset loaded cells
    → IsExact (record { chip = chip; places = places; aim = aim; pair = nets.bits; good = nets.good.waves; faulty = nets.faulty.waves })
kept_is_exact chip places place_of number_of aim nets unset loaded cells kept = record {
  whole = record { bits = kept.rest.bits; good = kept.rest.good.ready.count; faulty = kept.rest.faulty.ready.count };
  good = λ formed. waves_are_exact_lem chip place_of None nets.bits nets.good.waves
      (record { chip_is = kept.linked.is_chip; defect_is = tt; formed = formed }) kept.rest.good.simulated;
  faulty = λ formed. waves_are_exact_lem chip place_of aim nets.bits nets.faulty.waves
      (record { chip_is = kept.linked.is_chip; defect_is = aim_listed chip place_of aim kept.aim_is; formed = formed }) kept.rest.faulty.simulated;
}
