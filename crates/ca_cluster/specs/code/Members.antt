-- The marks by which the members of a cluster are found: only the proofs of the code cite this.
use Rattle.std.specs.Prelude.{ℕ, ◌≡◌, ◌<◌, ◌↔◌, ◌&&◌, ◌||◌, Bool, true, List, length}
use Rattle.ca_linked.specs.Linked.{LinkedChip, IsLibrary}
use Rattle.ca_linked.specs.Paths.{mark_at}
use Rattle.ca_view.specs.Core.{core_of}
use Rattle.ca_merged.specs.Members.{IsAtBridge}
use Rattle.ca_cluster.specs.declared.bridge.Bridge.{Bridge}
use Rattle.ca_cluster.specs.declared.members.BridgeMarks.{BridgeMarks}
use Rattle.ca_cluster.specs.code.Marks.{AreLed, Onward, Back}

-- an instance is a member where it is marked as at the bridge, or as after it and before it
abbrev pub is_marked : BridgeMarks → ℕ → Bool
is_marked marks x = mark_at marks.at x || (mark_at marks.after x && mark_at marks.before x)

-- there is a mark of each kind
abbrev pub HasRoom : BridgeMarks → ℕ → Type 0
HasRoom marks x = (x < length marks.at) × (x < length marks.after) × (x < length marks.before)

-- for each instance
abbrev pub HaveRoom : LinkedChip → BridgeMarks → Type 0
HaveRoom chip marks = (x : ℕ) → x < length chip.parts → HasRoom marks x

-- exactly those that an end of the bridge makes members are marked
abbrev pub AreSeeds : LinkedChip → Bridge → List Bool → Type 0
AreSeeds chip bridge at = (x : ℕ) → (mark_at at x ≡ true)
    ↔ IsAtBridge (core_of chip) bridge.instance.0 bridge.m.0 bridge.n.0 x

-- the marks are those of the bridge
pub record AreMarksOf (chip : LinkedChip) (bridge : Bridge) (marks : BridgeMarks) : Type 0 where
  pub room : length marks.at ≡ length chip.parts
  pub seeds : AreSeeds chip bridge marks.at
  pub after : AreLed (Onward chip) (IsLibrary chip) marks.at marks.after
  pub before : AreLed (Back chip) (IsLibrary chip) marks.at marks.before
