-- The rules of linking, in the order in which they are tried.
use Rattle.std.specs.Prelude.{ℕ, ◌+◌, ◌≡◌, ◌<◌, ◌⊎◌, List, [], ◌∷◌, ◌++◌, length, take, drop, ◌-◌, Some}
use Rattle.std.specs.Prelude.{IsSomeAnd, slice_get}
use Rattle.std.specs.List.{Contains, flat_map, sum_by}
use Rattle.ca_base.specs.First.{IsFirst}
use Rattle.ca_cell.specs.Library.{Named}
use Rattle.ca_cell.specs.Nodes.{defect_count}
use Rattle.ca_verilog.specs.declared.raw.RawUse.{RawUse}
use Rattle.ca_verilog.specs.declared.raw.RawNetlist.{RawNetlist}
use Rattle.ca_wiring.specs.declared.scan_row.ScanRow.{ScanRow}
use Rattle.ca_wiring.specs.declared.fault.Driver.{Driver}
use Rattle.ca_wiring.specs.declared.fault.Driver.TheVariants as driver
use Rattle.ca_wiring.specs.declared.fault.ChipFault.{ChipFault}
use Rattle.ca_wiring.specs.declared.fault.ChipFault.TheVariants as fault
use Rattle.ca_wiring.specs.declared.fault.TheConstants.{MOST_INSTANCES, MOST_CHIP_INPUTS, MOST_CHIP_OUTPUTS}
use Rattle.ca_wiring.specs.declared.fault.TheConstants.{MOST_CHIP_DEFECTS}
use Rattle.ca_linked.specs.Order.{IsLoop, IsOnce}
use Rattle.ca_wiring.specs.Joined.{AreJoined}
use Rattle.ca_wiring.specs.Wiring.{Meaning, Unknown, Broken, Library, ScanCell, meaning_of, output_names}
use Rattle.ca_wiring.specs.Wiring.{WiredPart, Wiring, wiring_of, out_bits}
use Rattle.ca_wiring.specs.InstanceRules.{HasStrayPin, LacksPin}
use Rattle.ca_wiring.specs.Nets.{Driving, PortBit, ConstantBit, OutputPin, ComesBefore, Drives, IsLoaded}
use Rattle.ca_wiring.specs.Nets.{AreNets, FeedsWire}
use Rattle.ca_linked.specs.Linked.{LinkedChip, inputs_of, outputs_of}
use Rattle.ca_wiring.specs.Linking.{IsLinkOf}

-- one place comes before another, compared number by number
abbrev pub IsEarlier : List ℕ → List ℕ → Type 0
IsEarlier [] [] = ⊥
IsEarlier [] (b ∷ later) = Unit {0}
IsEarlier (a ∷ rest) [] = ⊥
IsEarlier (a ∷ rest) (b ∷ later) = (a < b) ⊎ ((a ≡ b) × IsEarlier rest later)

-- the instance has the property, which is said of what its cell's name means and of its connections
abbrev pub OfInstance : RawNetlist → List Named → List ScanRow → ℕ → (Meaning → List RawUse → Type 0) → Type 0
OfInstance raw library scan u P =
    IsSomeAnd (slice_get raw.instances u) (λ instance. P
    (meaning_of library scan instance.cell) instance.pins)

-- the net at this place in net order has this wire as its earliest
pub record IsNetAt (wiring : Wiring) (net wire : ℕ) : Type 0 where
  pub nets : List ℕ
  pub are : AreNets wiring nets
  pub at : slice_get nets net ≡ Some wire

-- how a fault names what drives a net
abbrev pub IsDriver : Wiring → ℕ → Driving → Driver → Type 0
IsDriver wiring net (PortBit bit) reported = reported ≡ driver.Port (record { 0 = net })
IsDriver wiring net (ConstantBit value) reported = reported ≡ driver.Constant value
IsDriver wiring net (OutputPin u pin) reported =
    (part : WiredPart) × (name : List ℕ) × (slice_get wiring.parts u ≡ Some part)
    × (slice_get (output_names part.meaning) pin ≡ Some name)
    × (reported ≡ driver.Pin (record { 0 = u }) name)

-- two drive the net, the first two of all that do
pub record IsDoubleDriven (wiring : Wiring) (net : ℕ) (first second : Driver) : Type 0 where
  pub wire : ℕ
  pub is_net : IsNetAt wiring net wire
  pub one : Driving
  pub two : Driving
  pub drives_one : Drives wiring wire one
  pub drives_two : Drives wiring wire two
  pub in_order : ComesBefore one two
  pub none_before : (other : Driving) → Drives wiring wire other → ComesBefore other two → other ≡ one
  pub reported_one : IsDriver wiring net one first
  pub reported_two : IsDriver wiring net two second

-- the net has a load, and nothing drives it
pub record IsUndriven (wiring : Wiring) (net : ℕ) : Type 0 where
  pub wire : ℕ
  pub is_net : IsNetAt wiring net wire
  pub loaded : IsLoaded wiring wire
  pub driven_by_none : (driving : Driving) → Drives wiring wire driving → ⊥

-- an input port's bit drives the wire
abbrev pub IsOnInputPort : Wiring → ℕ → Type 0
IsOnInputPort wiring wire = (bit : ℕ) × Drives wiring wire (PortBit bit)

-- the names of the scan enable, the clock and the hold of a scan cell, and so their places after d and si
-- among the input pins
abbrev pub control_names : Meaning → List (List ℕ)
control_names Unknown = []
control_names (Broken rule) = []
control_names (Library raw) = []
control_names (ScanCell row) = row.se ∷ row.ck ∷ row.hold ∷ []

-- the instance is of a scan cell
abbrev pub IsScan : Meaning → Type 0
IsScan Unknown = ⊥
IsScan (Broken rule) = ⊥
IsScan (Library raw) = ⊥
IsScan (ScanCell row) = Unit {0}

-- the wire of a control pin of a scan instance
pub record IsControl (wiring : Wiring) (u k wire : ℕ) : Type 0 where
  pub part : WiredPart
  pub is_part : slice_get wiring.parts u ≡ Some part
  pub scan : IsScan part.meaning
  pub few : k < 3
  pub at : slice_get part.inputs (2 + k) ≡ Some wire

-- the control pin is on no input port, on another net than the same pin of the first scan instance, or on the
-- net of an earlier control pin of its instance
pub record BreaksControl (wiring : Wiring) (u k : ℕ) (pin : List ℕ) : Type 0 where
  pub wire : ℕ
  pub control : IsControl wiring u k wire
  pub named : slice_get (control_names control.part.meaning) k ≡ Some pin
  pub broken : (IsOnInputPort wiring wire → ⊥)
      ⊎ (((first other : ℕ) × IsFirst (λ (part : WiredPart). IsScan part.meaning) wiring.parts first
      × IsControl wiring first k other × (AreJoined wiring.joins wire other → ⊥))
      ⊎ ((j other : ℕ) × (j < k) × IsControl wiring u j other × AreJoined wiring.joins wire other))

-- the inverted output of a scan instance, which its row names, is on a net with a load
pub record UsesInverted (wiring : Wiring) (u : ℕ) : Type 0 where
  pub part : WiredPart
  pub q : ℕ
  pub qn : ℕ
  pub so : ℕ
  pub is_part : slice_get wiring.parts u ≡ Some part
  pub scan : IsScan part.meaning
  pub outputs : part.outputs ≡ q ∷ qn ∷ so ∷ []
  pub loaded : IsLoaded wiring qn

-- the wires of a scan instance's pins that put nets on the scan path, and of the others
abbrev pub path_inputs : Meaning → List ℕ → List ℕ
path_inputs Unknown wires = []
path_inputs (Broken rule) wires = []
path_inputs (Library raw) wires = []
path_inputs (ScanCell row) wires = drop 1 wires

-- the last of a list, as a list
abbrev pub last_of : List ℕ → List ℕ
last_of wires = drop (length wires - 1) wires

-- the wires of a scan instance's output pins that put nets on the scan path
abbrev pub path_outputs : Meaning → List ℕ → List ℕ
path_outputs Unknown wires = []
path_outputs (Broken rule) wires = []
path_outputs (Library raw) wires = []
path_outputs (ScanCell row) wires = last_of wires

-- the wires that an instance puts on the scan path
abbrev pub path_wires : WiredPart → List ℕ
path_wires part = path_inputs part.meaning part.inputs ++ path_outputs part.meaning part.outputs

-- the wires of library pins, and of d and q pins
abbrev pub data_wires_with : Meaning → List ℕ → List ℕ → List ℕ
data_wires_with Unknown inputs outputs = []
data_wires_with (Broken rule) inputs outputs = []
data_wires_with (Library raw) inputs outputs = inputs ++ outputs
data_wires_with (ScanCell row) inputs outputs = take 1 inputs ++ take 1 outputs

-- the wires of an instance's data pins
abbrev pub data_wires : WiredPart → List ℕ
data_wires part = data_wires_with part.meaning part.inputs part.outputs

-- some wire of the list is joined with this one
abbrev pub IsJoinedWithOne : Wiring → List ℕ → ℕ → Type 0
IsJoinedWithOne wiring wires wire = (other : ℕ) × Contains wires other × AreJoined wiring.joins other wire

-- a net of the scan path is on a data pin, or leads from an input port to an output port
pub record IsObservedPath (wiring : Wiring) (net : ℕ) : Type 0 where
  pub wire : ℕ
  pub is_net : IsNetAt wiring net wire
  pub path : IsJoinedWithOne wiring (flat_map path_wires wiring.parts) wire
  pub observed : IsJoinedWithOne wiring (flat_map data_wires wiring.parts) wire
      ⊎ (IsOnInputPort wiring wire × IsJoinedWithOne wiring (out_bits wiring) wire)

-- the number of defects of a cell
abbrev pub defects_of : Meaning → ℕ
defects_of Unknown = 0
defects_of (Broken rule) = 0
defects_of (Library raw) = defect_count raw
defects_of (ScanCell row) = 0

-- an instance of a library cell counts one
abbrev pub count_library : Meaning → ℕ
count_library Unknown = 0
count_library (Broken rule) = 0
count_library (Library raw) = 1
count_library (ScanCell row) = 0

-- how many instances are of library cells
abbrev pub library_count : List WiredPart → ℕ
library_count [] = 0
library_count (part ∷ more) = count_library part.meaning + library_count more

-- The netlist breaks the rule, at a place in the order in which the rules are tried: first instance by
-- instance its cell, its connections and its input pins; then net by net; then scan instance by scan
-- instance, and the nets of the scan path; then the loop, and the limits.
abbrev pub BreaksAt : RawNetlist → List Named → List ScanRow → List ℕ → ChipFault → Type 0
BreaksAt raw library scan at (fault.UnknownCell u) =
    (at ≡ 1 ∷ u.0 ∷ 0 ∷ []) × OfInstance raw library scan u.0 (λ meaning uses. meaning ≡ Unknown)
BreaksAt raw library scan at (fault.Cell u rule) =
    (at ≡ 1 ∷ u.0 ∷ 0 ∷ []) × OfInstance raw library scan u.0 (λ meaning uses. meaning ≡ Broken rule)
BreaksAt raw library scan at (fault.UnknownPin u pin) =
    (k : ℕ) × (at ≡ 1 ∷ u.0 ∷ 1 ∷ k ∷ []) × OfInstance raw library scan u.0
    (λ meaning uses. HasStrayPin meaning uses k pin)
BreaksAt raw library scan at (fault.MissingPin u pin) =
    (k : ℕ) × (at ≡ 1 ∷ u.0 ∷ 2 ∷ k ∷ []) × OfInstance raw library scan u.0
    (λ meaning uses. LacksPin meaning uses k pin)
BreaksAt raw library scan at (fault.DoubleDriven net first second) =
    (at ≡ 2 ∷ net.0 ∷ []) × IsDoubleDriven (wiring_of raw library scan) net.0 first second
BreaksAt raw library scan at (fault.Undriven net) =
    (at ≡ 2 ∷ net.0 ∷ []) × IsUndriven (wiring_of raw library scan) net.0
BreaksAt raw library scan at (fault.ControlPin u pin) =
    (k : ℕ) × (at ≡ 3 ∷ u.0 ∷ k ∷ []) × BreaksControl (wiring_of raw library scan) u.0 k pin
BreaksAt raw library scan at (fault.QnUsed u) =
    (at ≡ 3 ∷ u.0 ∷ 3 ∷ []) × UsesInverted (wiring_of raw library scan) u.0
BreaksAt raw library scan at (fault.ControlObserved net) =
    (at ≡ 4 ∷ net.0 ∷ []) × IsObservedPath (wiring_of raw library scan) net.0
BreaksAt raw library scan at (fault.Loop instances) =
    (at ≡ 5 ∷ []) × IsLoop (FeedsWire (wiring_of raw library scan)) instances
BreaksAt raw library scan at (fault.TooManyInstances count) =
    (at ≡ 6 ∷ 0 ∷ []) × (count ≡ library_count (wiring_of raw library scan).parts) × (MOST_INSTANCES < count)
BreaksAt raw library scan at (fault.TooManyInputs count) =
    (at ≡ 6 ∷ 1 ∷ []) × ((chip : LinkedChip) × IsLinkOf (wiring_of raw library scan) chip × (count
    ≡ length (inputs_of chip)) × (MOST_CHIP_INPUTS < count))
BreaksAt raw library scan at (fault.TooManyOutputs count) =
    (at ≡ 6 ∷ 2 ∷ []) × ((chip : LinkedChip) × IsLinkOf (wiring_of raw library scan) chip × (count
    ≡ length (outputs_of chip)) × (MOST_CHIP_OUTPUTS < count))
BreaksAt raw library scan at (fault.TooManyDefects count) = (at ≡ 6 ∷ 3 ∷ [])
    × (count ≡ sum_by (λ part. defects_of part.meaning) (wiring_of raw library scan).parts)
    × (MOST_CHIP_DEFECTS < count)
BreaksAt raw library scan at fault.NoMemory = ⊥

-- the netlist breaks the rule, and no rule at an earlier place
pub record IsFirstBroken (raw : RawNetlist) (library : List Named) (scan : List ScanRow)
    (broken : ChipFault) : Type 0 where
  pub at : List ℕ
  pub breaks : BreaksAt raw library scan at broken
  pub none_before : (before : List ℕ) (other : ChipFault) → IsEarlier before at
      → BreaksAt raw library scan before other → ⊥

-- the netlist breaks no rule and passes no limit
abbrev pub KeepsRules : RawNetlist → List Named → List ScanRow → Type 0
KeepsRules raw library scan = (at : List ℕ) (other : ChipFault) → BreaksAt raw library scan at other → ⊥

-- why a netlist isn't linked: the first rule that is broken, where a loop has each of its instances once;
-- memory may run out with any
abbrev pub IsCause : RawNetlist → List Named → List ScanRow → ChipFault → Type 0
IsCause raw library scan (fault.UnknownCell u) = IsFirstBroken raw library scan (fault.UnknownCell u)
IsCause raw library scan (fault.Cell u rule) = IsFirstBroken raw library scan (fault.Cell u rule)
IsCause raw library scan (fault.UnknownPin u pin) = IsFirstBroken raw library scan (fault.UnknownPin u pin)
IsCause raw library scan (fault.MissingPin u pin) = IsFirstBroken raw library scan (fault.MissingPin u pin)
IsCause raw library scan (fault.DoubleDriven net first second) =
    IsFirstBroken raw library scan (fault.DoubleDriven net first second)
IsCause raw library scan (fault.Undriven net) = IsFirstBroken raw library scan (fault.Undriven net)
IsCause raw library scan (fault.ControlPin u pin) = IsFirstBroken raw library scan (fault.ControlPin u pin)
IsCause raw library scan (fault.ControlObserved net) =
    IsFirstBroken raw library scan (fault.ControlObserved net)
IsCause raw library scan (fault.QnUsed u) = IsFirstBroken raw library scan (fault.QnUsed u)
IsCause raw library scan (fault.Loop instances) =
    IsFirstBroken raw library scan (fault.Loop instances) × IsOnce instances
IsCause raw library scan (fault.TooManyInstances count) =
    IsFirstBroken raw library scan (fault.TooManyInstances count)
IsCause raw library scan (fault.TooManyInputs count) =
    IsFirstBroken raw library scan (fault.TooManyInputs count)
IsCause raw library scan (fault.TooManyOutputs count) =
    IsFirstBroken raw library scan (fault.TooManyOutputs count)
IsCause raw library scan (fault.TooManyDefects count) =
    IsFirstBroken raw library scan (fault.TooManyDefects count)
IsCause raw library scan fault.NoMemory = Unit {0}
