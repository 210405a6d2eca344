-- The list of the defects of a chip, handed on.
pub use Rattle.ca_chip_defects.specs.ChipDefects.{placed_at, defects_at, chip_defects}
pub use Rattle.ca_chip_defects.specs.code.ChipDefects.{if_placed}
pub use Rattle.ca_chip_defects.specs.code.ChipDefects.{placed_before, placed_instances}
