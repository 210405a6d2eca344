-- The bridges that are shorts of merged chips, by their places, and their verdicts among those of all.
use Rattle.std.specs.Prelude.{ℕ, ◌≡◌, ◌<◌, ⊤, List, length, slice_get, Some}
use Rattle.ca_flat.specs.declared.chip_defect.ChipDefect.{ChipDefect}
use Rattle.ca_linked.specs.Linked.{LinkedChip}
use Rattle.ca_view.specs.Core.{core_of}
use Rattle.ca_credit.specs.declared.verdict.Verdict.{Verdict}
use Rattle.ca_credit.specs.declared.verdict.Verdict.TheVariants as verdict
use Rattle.ca_credit.specs.Defects.{Task}
use Rattle.ca_credit.specs.Listed.{IsAscending}
use Rattle.ca_targets.specs.declared.target.Target.{Target}
use Rattle.ca_targets.specs.declared.target.Target.TheVariants as kind
use Rattle.ca_targets.specs.declared.target.Cluster.{Cluster}
use Rattle.ca_benches.specs.declared.station.Station.{Station}
use Rattle.ca_bridges.specs.declared.numbers.Numbered.{Numbered}
use Rattle.ca_bridge_verdicts.specs.declared.verdict.BridgeVerdict.{BridgeVerdict}
use Rattle.ca_bridge_verdicts.specs.declared.verdict.BridgeVerdict.TheVariants as said

-- the target is a short
abbrev pub IsShort : Target → Type 0
IsShort (kind.Short cluster place) = ⊤
IsShort _ = ⊥

-- the number is the place of a short
pub record IsPlaceOfShort (targets : List Target) (place : ℕ) : Type 0 where
  pub target : Target
  pub at : slice_get targets place ≡ Some target
  pub short : IsShort target

-- the place of a short is the k-th of the numbers
pub record IsNumbered (numbers : List ℕ) (place : ℕ) : Type 0 where
  pub k : ℕ
  pub at : slice_get numbers k ≡ Some place

-- the places of those of the first targets that are shorts, in order
pub record AreNumbers (targets : List Target) (count : ℕ) (numbers : List ℕ) : Type 0 where
  pub ascending : IsAscending numbers
  pub below : (k place : ℕ) → slice_get numbers k ≡ Some place → place < count
  pub shorts : (k place : ℕ) → slice_get numbers k ≡ Some place → IsPlaceOfShort targets place
  pub all : (place : ℕ) → place < count → IsPlaceOfShort targets place → IsNumbered numbers place

-- a short is one of its cluster
abbrev pub IsFound : List Cluster → Target → Type 0
IsFound clusters (kind.Short number at) =
    (cluster : Cluster) × (slice_get clusters number ≡ Some cluster) × (at < length cluster.shorts)
IsFound clusters _ = Unit {0}

-- the station's defect is at its place of the shorts of its cluster
pub record IsStationOf (clusters : List Cluster) (station : Station) : Type 0 where
  pub cluster : Cluster
  pub is_cluster : slice_get clusters station.part ≡ Some cluster
  pub is_short : slice_get cluster.shorts station.place ≡ Some station.defect

-- the target is the short in the station
abbrev pub IsStationFor : Target → Station → Type 0
IsStationFor target station = target ≡ kind.Short station.part station.place

-- the places of those of the first targets that are shorts, and a station for each
pub record AreNumbered (targets : List Target) (clusters : List Cluster) (count : ℕ) (numbered : Numbered)
    : Type 0 where
  pub numbers : AreNumbers targets count numbered.numbers
  pub one_each : length numbered.stations ≡ length numbered.numbers
  pub stations : (k : ℕ) (station : Station) → slice_get numbered.stations k ≡ Some station
      → IsStationOf clusters station
  pub for : (k place : ℕ) (station : Station) (target : Target) → slice_get numbered.stations k ≡ Some station
      → slice_get numbered.numbers k ≡ Some place → slice_get targets place ≡ Some target
      → IsStationFor target station

-- what is said of a bridge that is no short; of a short, what a verdict on it says
abbrev pub own_word : Target → BridgeVerdict
own_word kind.Port = said.Port
own_word kind.OneNode = said.Unexposable
own_word (kind.Wide rule) = said.Wide rule
own_word (kind.Short cluster place) = said.Unexposable

abbrev pub word_of : Verdict → BridgeVerdict
word_of (verdict.Credited pair output) = said.Credited pair output
word_of verdict.Unexposable = said.Unexposable
word_of verdict.Untestable = said.Untestable
word_of (verdict.Aborted code) = said.Aborted code

-- the verdicts on all bridges: that of a short is the given one with its number
pub record ArePut (targets : List Target) (numbers : List ℕ) (given : List Verdict)
    (verdicts : List BridgeVerdict) : Type 0 where
  pub one_each : length verdicts ≡ length targets
  pub own : (place : ℕ) (target : Target) → slice_get targets place ≡ Some target → ¬ (IsShort target)
      → slice_get verdicts place ≡ Some (own_word target)
  pub given_are : (k place : ℕ) (verdict : Verdict) → slice_get numbers k ≡ Some place
      → slice_get given k ≡ Some verdict → slice_get verdicts place ≡ Some (word_of verdict)

-- the task's defects are the shorts with these numbers, each of its cluster's chip
pub record IsTaskOf (chip : LinkedChip) (budget : ℕ) (targets : List Target) (clusters : List Cluster)
    (numbers : List ℕ) (task : Task) : Type 0 where
  pub chip_is : task.chip ≡ core_of chip
  pub budget_is : task.budget ≡ budget
  pub counted : length task.defects ≡ length numbers
  pub each : (k place number at : ℕ) (cluster : Cluster) (short : ChipDefect)
      → slice_get numbers k ≡ Some place → slice_get targets place ≡ Some (kind.Short number at)
      → slice_get clusters number ≡ Some cluster → slice_get cluster.shorts at ≡ Some short
      → (task.chip_of k ≡ core_of cluster.chip) × (slice_get task.defects k ≡ Some short)

-- each of the first aims is the place of the bridge whose number was the aim
pub record AreAimsUpTo (numbers aims : List ℕ) (count : ℕ) (places : List ℕ) : Type 0 where
  pub counted : length places ≡ count
  pub each : (number aim : ℕ) → number < count → slice_get aims number ≡ Some aim
      → slice_get places number ≡ slice_get numbers aim

abbrev pub AreAimsAt : List ℕ → List ℕ → List ℕ → Type 0
AreAimsAt numbers aims = AreAimsUpTo numbers aims (length aims)
