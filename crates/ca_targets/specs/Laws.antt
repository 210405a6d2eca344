-- Laws of targets.
use Rattle.std.specs.Prelude.{◌≡◌, List}
use Rattle.std.specs.List.{All}
use Rattle.ca_flat.specs.declared.chip_defect.ChipDefect.{ChipDefect}
use Rattle.ca_linked.specs.Linked.{LinkedChip, IsWired}
use Rattle.ca_view.specs.Core.{core_of}
use Rattle.ca_view.specs.Linked.{IsPlacedDefect, place_in}
use Rattle.ca_view.specs.View.{Viewed, IsViewOf}
use Rattle.ca_cluster.specs.declared.bridge.Bridge.{Bridge}
use Rattle.ca_cluster.specs.Clusters.{IsMergedBy}
use Rattle.ca_targets.specs.Targets.{IsLibraryDefect}

-- a bridge has one cluster, so that two merged chips for it have the same core, and one short is the bridge
abbrev pub OneCluster : Type 0
OneCluster =
    (chip : LinkedChip) (bridge : Bridge) (made other : LinkedChip) (short other_short : ChipDefect)
    → IsMergedBy chip bridge made short → IsMergedBy chip bridge other other_short
    → (core_of made ≡ core_of other) × (short ≡ other_short)

-- defects of library instances have places in each view of the chip
abbrev pub LibraryDefectsArePlaced : Type 0
LibraryDefectsArePlaced =
    (chip : LinkedChip) (view : Viewed) (shorts : List ChipDefect) → IsWired chip → IsViewOf chip view
    → All (IsLibraryDefect chip) shorts → All (IsPlacedDefect view.core (place_in view.ranks)) shorts
