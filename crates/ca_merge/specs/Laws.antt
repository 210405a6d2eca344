-- Laws of drafts of merged chips.
use Rattle.std.specs.Prelude.{ℕ, ◌≡◌, ◌<◌, List, length}
use Rattle.ca_cell.specs.Rules.{KeepsRules}
use Rattle.ca_linked.specs.Linked.{LinkedChip, Feeds, IsLibrary, IsWired}
use Rattle.ca_linked.specs.Order.{HasNoLoop, IsOrder}
use Rattle.ca_linked.specs.Wired.{IsReady}
use Rattle.ca_view.specs.Core.{core_of}
use Rattle.ca_merged.specs.Cluster.{cluster_cell}
use Rattle.ca_merged.specs.Merged.{AreMembers, merged}
use Rattle.ca_merge.specs.Draft.{merged_draft, AreGates}

-- library instances of a wired chip that may be merged: some, with all between them, and as one cell they
-- keep the rules
pub record AreMergeable (chip : LinkedChip) (members : List ℕ) : Type 0 where
  pub wired : IsWired chip
  pub gates : AreGates chip members
  pub some : 0 < length members
  pub are : AreMembers (core_of chip) members
  pub keeps : KeepsRules (cluster_cell (core_of chip) members)

-- the core of the draft is the core's merged chip
abbrev pub DraftCoreIsMerged : Type 0
DraftCoreIsMerged =
    (chip : LinkedChip) (members : List ℕ) → IsWired chip → AreGates chip members
    → AreMembers (core_of chip) members
    → core_of (merged_draft chip members) ≡ merged (core_of chip) members

-- no chain of instances of the draft returns to its first
abbrev pub DraftHasNoLoop : Type 0
DraftHasNoLoop =
    (chip : LinkedChip) (members : List ℕ) → AreMergeable chip members
    → HasNoLoop (Feeds (merged_draft chip members))

-- the draft with an order of its library instances is a wired chip
abbrev pub DraftIsWired : Type 0
DraftIsWired =
    (chip : LinkedChip) (members order : List ℕ) → AreMergeable chip members
    → IsOrder (Feeds (merged_draft chip members)) (IsLibrary (merged_draft chip members)) order
    → IsWired (record (merged_draft chip members) { order = order })

-- the draft of a merged chip is ready to be wired
abbrev pub DraftIsReady : Type 0
DraftIsReady =
    (chip : LinkedChip) (members : List ℕ) → AreMergeable chip members → IsReady (merged_draft chip members)
