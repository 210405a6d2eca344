-- How large a flat network may be.
use Rattle.std.specs.Prelude.{◌<◌, ◌^◌, length, Option}
use Rattle.ca_flat.specs.declared.chip_defect.ChipDefect.{ChipDefect}
use Rattle.ca_flat.specs.Chip.{Chip}
use Rattle.ca_flat.specs.Flat.{flat}

-- the flat network has fewer than 2^32 nodes and devices
pub record IsFew (chip : Chip) (given : Option ChipDefect) : Type 0 where
  pub nodes : length (flat chip given).nodes < 2 ^ 32
  pub devices : length (flat chip given).devices < 2 ^ 32
