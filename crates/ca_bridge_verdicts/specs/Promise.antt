-- What is promised of the verdicts on the bridges of a library instance.
use Rattle.std.specs.Prelude.{ℕ, ◌≡◌, ◌<◌, ◌≤◌, ◌+◌, ◌^◌, ◌↔◌, Bool, List, length, slice_get, Some}
use Rattle.ca_cell.specs.declared.rule.CellRule.{CellRule}
use Rattle.ca_flat.specs.declared.chip_defect.ChipDefect.{ChipDefect}
use Rattle.ca_flat.specs.declared.token.Token.{Token}
use Rattle.ca_flat.specs.Codes.{IsSpentCode}
use Rattle.ca_flat.specs.Detection.{IsExposableIn}
use Rattle.ca_linked.specs.Linked.{LinkedChip}
use Rattle.ca_view.specs.Core.{core_of}
use Rattle.ca_credit.specs.Good.{HasSupport, IsCheckedSpent}
use Rattle.ca_credit.specs.Listed.{IsAscending, IsFoundFor}
use Rattle.ca_cluster.specs.declared.bridge.Bridge.{Bridge}
use Rattle.ca_cluster.specs.Clusters.{IsAtPort, IsOneNode, IsInside, IsWide, IsMergedBy}
use Rattle.ca_bridge_verdicts.specs.Bridges.{Ends}
use Rattle.ca_bridge_verdicts.specs.Good.{IsFirstBridgeDetection, NoneDetectsBridge, IsUntestableBridge}
use Rattle.ca_bridge_verdicts.specs.declared.verdict.BridgeVerdict.{BridgeVerdict}
use Rattle.ca_bridge_verdicts.specs.declared.verdict.BridgeVerdict.TheVariants.{Credited, Unexposable, Untestable}
use Rattle.ca_bridge_verdicts.specs.declared.verdict.BridgeVerdict.TheVariants.{Aborted, Port, Wide}

-- a bridge by its instance and its two nodes
abbrev pub ends_of : Bridge → Ends
ends_of bridge = record { instance = bridge.instance.0; low = bridge.m.0; high = bridge.n.0 }

-- the bridge at this place of the list has the verdict
pub record HasVerdict (bridges : List Bridge) (verdicts : List BridgeVerdict) (place : ℕ) (bridge : Bridge)
    (verdict : BridgeVerdict) : Type 0 where
  pub is_bridge : slice_get bridges place ≡ Some bridge
  pub is_verdict : slice_get verdicts place ≡ Some verdict

-- the short, in the chip where the bridge's cluster is one instance, can be exposed in that instance's cell,
-- no listed pair detects the bridge, and the code is a spent one of the short, which can be checked
pub record IsRightlyAborted (chip : LinkedChip) (budget : ℕ) (pairs : List (List Bool)) (bridge : Bridge)
    (code : List Token) (made : LinkedChip) (short : ChipDefect) : Type 0 where
  pub exposable : IsExposableIn (core_of made) short
  pub undetected : NoneDetectsBridge (core_of chip) (ends_of bridge) pairs
  pub spent : IsSpentCode (core_of made) short budget code
  pub checked : IsCheckedSpent (core_of made) short budget code

-- the bridge at the place is said to be wide
pub record IsSaidWide (verdicts : List BridgeVerdict) (place : ℕ) : Type 0 where
  pub rule : CellRule
  pub is : slice_get verdicts place ≡ Some (Wide rule)

-- the bridge at the place is credited to the pair
pub record IsCreditedTo (verdicts : List BridgeVerdict) (pair place : ℕ) : Type 0 where
  pub output : ℕ
  pub credited : slice_get verdicts place ≡ Some (Credited pair output)

-- some bridge is credited to the pair
pub record IsNeeded (verdicts : List BridgeVerdict) (pair : ℕ) : Type 0 where
  pub place : ℕ
  pub to : IsCreditedTo verdicts pair place

-- the pair with this number was found for the bridge at the place `aim`, to which it is credited: a partial
-- pair that is shown for the bridge's short gives it
pub record IsAim (chip : LinkedChip) (budget : ℕ) (bridges : List Bridge) (pairs : List (List Bool))
    (verdicts : List BridgeVerdict) (number aim : ℕ) : Type 0 where
  pub bridge : Bridge
  pub pair : List Bool
  pub is_bridge : slice_get bridges aim ≡ Some bridge
  pub is_pair : slice_get pairs number ≡ Some pair
  pub credited : IsCreditedTo verdicts number aim
  pub found : (made : LinkedChip) (short : ChipDefect) → IsMergedBy chip bridge made short
      → IsFoundFor (core_of made) budget short pair

-- for each bridge that is the short of a merged chip, with s bits in its support, the budget is at least
-- 2^s - 1
abbrev pub IsAmple : LinkedChip → ℕ → List Bridge → Type 0
IsAmple chip budget bridges =
    (place : ℕ) (bridge : Bridge) (made : LinkedChip) (short : ChipDefect)
    → slice_get bridges place ≡ Some bridge → IsInside chip bridge → IsMergedBy chip bridge made short
    → (s : ℕ) × HasSupport (core_of made) short s × (2 ^ s ≤ budget + 1)

-- The promise: one verdict for each bridge of the list, in order, of which each says what is so. Which pairs
-- detect a bridge is said by the flat networks of the chip without and with the bridge.
pub record AreGoodVerdicts (chip : LinkedChip) (budget : ℕ) (bridges : List Bridge)
    (pairs : List (List Bool)) (aims : List ℕ) (verdicts : List BridgeVerdict) : Type 0 where
  pub one_each : length verdicts ≡ length bridges
  -- port exactly where an input pin among the ends is on a chip input or a constant
  pub port : (place : ℕ) (bridge : Bridge) → slice_get bridges place ≡ Some bridge
      → (slice_get verdicts place ≡ Some Port) ↔ IsAtPort (core_of chip) bridge
  -- wide exactly where it isn't so, both ends aren't one node, and the cluster's cell breaks a rule: the
  -- first
  pub wide : (place : ℕ) (bridge : Bridge) (rule : CellRule)
      → HasVerdict bridges verdicts place bridge (Wide rule) → IsInside chip bridge × IsWide chip bridge rule
  pub named_wide : (place : ℕ) (bridge : Bridge) (rule : CellRule) → slice_get bridges place ≡ Some bridge
      → IsInside chip bridge → IsWide chip bridge rule → IsSaidWide verdicts place
  -- unexposable where both ends are one node
  pub one_node : (place : ℕ) (bridge : Bridge) → slice_get bridges place ≡ Some bridge
      → (IsAtPort (core_of chip) bridge → ⊥) → IsOneNode (core_of chip) bridge
      → slice_get verdicts place ≡ Some Unexposable
  -- and of a bridge that is the short of a merged chip exactly where no pair of vectors exposes the short in
  -- its cell
  pub unexposable : (place : ℕ) (bridge : Bridge) (made : LinkedChip) (short : ChipDefect)
      → slice_get bridges place ≡ Some bridge → IsInside chip bridge → IsMergedBy chip bridge made short
      → (slice_get verdicts place ≡ Some Unexposable) ↔ (IsExposableIn (core_of made) short → ⊥)
  -- a credit names the first pair that detects the bridge, and the first output at which it does
  pub credited : (place pair output : ℕ) (bridge : Bridge)
      → HasVerdict bridges verdicts place bridge (Credited pair output)
      → IsFirstBridgeDetection (core_of chip) (ends_of bridge) pairs pair output
  -- untestable only where no definite pair detects the bridge
  pub untestable : (place : ℕ) (bridge : Bridge) → HasVerdict bridges verdicts place bridge Untestable
      → IsUntestableBridge (core_of chip) (ends_of bridge)
  -- aborted only where no listed pair detects the bridge, and the whole budget was spent
  pub aborted : (place : ℕ) (bridge : Bridge) (code : List Token) (made : LinkedChip) (short : ChipDefect)
      → HasVerdict bridges verdicts place bridge (Aborted code) → IsMergedBy chip bridge made short
      → IsRightlyAborted chip budget pairs bridge code made short
  -- no pair is listed in vain
  pub needed : (pair : ℕ) → pair < length pairs → IsNeeded verdicts pair
  -- one aim for each listed pair, in ascending order
  pub one_aim_each : length aims ≡ length pairs
  pub ascending : IsAscending aims
  pub aims_are : (number aim : ℕ) → slice_get aims number ≡ Some aim
      → IsAim chip budget bridges pairs verdicts number aim
  -- where the budget is enough for every search, an aim is the least bridge that is credited to its pair
  pub aims_least : IsAmple chip budget bridges → (pair aim place : ℕ) → slice_get aims pair ≡ Some aim
      → IsCreditedTo verdicts pair place → aim ≤ place
