-- The laws of the core of a linked chip.
use Rattle.ca_flat.specs.Chip.{IsChip}
use Rattle.ca_linked.specs.Linked.{LinkedChip, IsWired}
use Rattle.ca_view.specs.Core.{core_of, rank_of}

-- the core of a wired chip is one that a flat network can be built on
abbrev pub CoreIsChip : Type 0
CoreIsChip = (chip : LinkedChip) → IsWired chip → IsChip (core_of chip) (rank_of chip)
