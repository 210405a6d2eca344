-- The list of the defects of a chip.
use Rattle.std.specs.Prelude.{ℕ, List, map, flat_map}
use Rattle.ca_cell.specs.declared.defect.Defect.{Defect}
use Rattle.ca_cell.specs.List.{defects_of}
use Rattle.ca_flat.specs.declared.chip_defect.ChipDefect.{ChipDefect}
use Rattle.ca_flat.specs.Chip.{Chip, cell_at}

-- the defect of a cell as one of the instance u
abbrev pub placed_at : ℕ → Defect → ChipDefect
placed_at u defect = record { instance = u; defect = defect }

-- the defects of the instance u, in the order of its cell's list
abbrev pub defects_at : Chip → ℕ → List ChipDefect
defects_at chip u = map (placed_at u) (defects_of (cell_at chip u))

-- the defects of these instances of a chip: by instance, and then in the order of its cell's list
abbrev pub chip_defects : Chip → List ℕ → List ChipDefect
chip_defects chip instances = flat_map (defects_at chip) instances
