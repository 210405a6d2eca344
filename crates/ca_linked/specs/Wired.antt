-- Why a chip's nets aren't wired: the rules on drivers, on control pins, on the scan path and on loops, in
-- the order in which they are tried.
use Rattle.std.specs.Prelude.{ℕ, ◌≡◌, ◌<◌, false, List, Some, None}
use Rattle.ca_linked.specs.declared.drivers.Sources.{Sources}
use Rattle.ca_linked.specs.declared.wiring.WireFault.{WireFault}
use Rattle.ca_linked.specs.declared.wiring.WireFault.TheVariants.{Misdriven, Misused, Observed, Loop}
use Rattle.ca_linked.specs.declared.wiring.WireFault.TheVariants.{NoMemory}
use Rattle.ca_linked.specs.declared.wiring.Judged.{Judged}
use Rattle.ca_linked.specs.Order.{IsSimpleLoop, IsOrder, HasNoLoop}
use Rattle.ca_linked.specs.Linked.{Source, LinkedChip, net_count, is_scan_path, Drives, Feeds, IsLibrary}
use Rattle.ca_linked.specs.Linked.{IsWired}
use Rattle.ca_linked.specs.Drivers.{IsOnly, AreFirst, IsSingle, IsDrafted}
use Rattle.ca_linked.specs.Paths.{is_observed, IsFirstObserved, AreMarks}
use Rattle.ca_linked.specs.Feeding.{AreSingle}
use Rattle.ca_linked.specs.Controls.{misused_of}

-- the net has one driver
pub record HasOneDriver (chip : LinkedChip) (net : ℕ) : Type 0 where
  pub source : Source
  pub only : IsOnly (Drives chip net) source

-- nothing drives the net, or these two are the first that do; each net before it has one driver
pub record IsFirstMisdriven (chip : LinkedChip) (net : ℕ) (sources : Sources) : Type 0 where
  pub within : net < net_count chip
  pub first : AreFirst (Drives chip net) sources.first sources.second
  pub flawed : IsSingle sources → ⊥
  pub none_before : (before : ℕ) → before < net → HasOneDriver chip before

-- each net has one driver
abbrev pub AreDriven : LinkedChip → Type 0
AreDriven chip = (net : ℕ) → net < net_count chip → HasOneDriver chip net

-- no net of the scan path is observed
abbrev pub AreUnobserved : LinkedChip → Type 0
AreUnobserved chip = (net : ℕ) → net < net_count chip → is_observed chip net ≡ false

-- each net has one driver, each control pin and inverted output keeps its rule, and no net of the scan path
-- is observed
pub record KeepsNetRules (chip : LinkedChip) : Type 0 where
  pub driven : AreDriven chip
  pub used : misused_of chip ≡ None
  pub unobserved : AreUnobserved chip

-- the first rule that is broken; or there was no memory
abbrev pub IsWireCause : LinkedChip → WireFault → Type 0
IsWireCause chip (Misdriven net sources) = IsFirstMisdriven chip net sources
IsWireCause chip (Misused misused) = AreDriven chip × (misused_of chip ≡ Some misused)
IsWireCause chip (Observed net) = AreDriven chip × (misused_of chip ≡ None) × IsFirstObserved chip net
IsWireCause chip (Loop loop) = KeepsNetRules chip × IsSimpleLoop (Feeds chip) loop
IsWireCause chip NoMemory = Unit {0}

-- what was found is of this chip: the driver of each net, the nets of the scan path, and an order of the
-- library instances
pub record IsFound (chip : LinkedChip) (judged : Judged) : Type 0 where
  pub single : AreSingle chip judged.drivers
  pub path : AreMarks (net_count chip) (is_scan_path chip) judged.path
  pub ordered : IsOrder (Feeds chip) (IsLibrary chip) judged.order

-- what was found is of this chip, which keeps the rules
pub record IsJudged (chip : LinkedChip) (judged : Judged) : Type 0 where
  pub kept : KeepsNetRules chip
  pub found : IsFound chip judged

-- the draft of a chip needs no judgement: it is drafted, each net has one driver, no chain returns to its
-- first, and with each order of the library instances it is a wired chip
pub record IsReady (draft : LinkedChip) : Type 0 where
  pub drafted : IsDrafted draft
  pub driven : AreDriven draft
  pub no_loop : HasNoLoop (Feeds draft)
  pub wired : (order : List ℕ) → IsOrder (Feeds draft) (IsLibrary draft) order
      → IsWired (record draft { order = order })
