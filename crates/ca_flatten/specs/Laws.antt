-- The laws of the flat network of a linked chip.
use Rattle.std.specs.Prelude.{Option}
use Rattle.std.specs.List.{All}
use Rattle.ca_net.specs.Circuit.{IsWellFormed}
use Rattle.ca_flat_text.specs.FlatText.{HasLine}
use Rattle.ca_flat.specs.declared.chip_defect.ChipDefect.{ChipDefect}
use Rattle.ca_flat.specs.Chip.{IsChipDefect}
use Rattle.ca_flat.specs.Flat.{flat}
use Rattle.ca_linked.specs.Linked.{LinkedChip, IsWired}
use Rattle.ca_view.specs.Core.{core_of}
use Rattle.ca_flatten.specs.Few.{IsFew}

-- the flat network of a wired chip, good or with a defect, is one where it isn't too large
abbrev pub FlatIsWellFormed : Type 0
FlatIsWellFormed =
    (chip : LinkedChip) (given : Option ChipDefect) → IsWired chip → IsChipDefect (core_of chip) given
    → IsFew (core_of chip) given → IsWellFormed (flat (core_of chip) given)

-- each device of it has a line in the text of a network
abbrev pub FlatHasLines : Type 0
FlatHasLines =
    (chip : LinkedChip) (given : Option ChipDefect) → IsWired chip
    → All HasLine (flat (core_of chip) given).devices
