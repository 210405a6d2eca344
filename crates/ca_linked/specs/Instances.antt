-- The library instances and the scan instances of a chip, and the nets of their pins.
use Rattle.std.specs.Prelude.{ℕ, ◌+◌, ◌≡◌, List, [], ◌∷◌, ◌++◌, Some, slice_get}
use Rattle.ca_linked.specs.declared.pins.ScanPin.{ScanPin}
use Rattle.ca_linked.specs.declared.pins.ScanPin.TheVariants.{D, Q, Si, So, Se, Ck, Hold}
use Rattle.ca_linked.specs.Linked.{ScanNets, Body, Gate, Scan, Part, LinkedChip, cell_of, input_nets}
use Rattle.ca_linked.specs.Linked.{output_nets}
use Rattle.ca_linked.specs.Linked.{IsGate}
use Rattle.ca_cell.specs.declared.raw.RawCell.{RawCell}

-- the place of an instance, if it is one of the library
abbrev pub if_gate : ℕ → Body → List ℕ
if_gate u (Gate cell inputs outputs) = u ∷ []
if_gate u (Scan nets) = []

-- the place of an instance, if it is a scan instance
abbrev pub if_scan : ℕ → Body → List ℕ
if_scan u (Gate cell inputs outputs) = []
if_scan u (Scan nets) = u ∷ []

-- the places of the library instances among these, of which the first is the instance u
abbrev pub gates_from : ℕ → List Part → List ℕ
gates_from u [] = []
gates_from u (part ∷ more) = if_gate u part.body ++ gates_from (u + 1) more

-- the places of the scan instances among these, of which the first is the instance u
abbrev pub scans_from : ℕ → List Part → List ℕ
scans_from u [] = []
scans_from u (part ∷ more) = if_scan u part.body ++ scans_from (u + 1) more

-- the library instances, in netlist order
abbrev pub gates_of : LinkedChip → List ℕ
gates_of chip = gates_from 0 chip.parts

-- the scan instances, in netlist order
abbrev pub scans_of : LinkedChip → List ℕ
scans_of chip = scans_from 0 chip.parts

-- the net of a pin of a scan instance
abbrev pub net_of_pin : ScanNets → ScanPin → ℕ
net_of_pin nets D = nets.d
net_of_pin nets Q = nets.q
net_of_pin nets Si = nets.si
net_of_pin nets So = nets.so
net_of_pin nets Se = nets.se
net_of_pin nets Ck = nets.ck
net_of_pin nets Hold = nets.hold

-- the instance is a scan instance with this net on that pin
abbrev pub HasOnPin : ScanPin → ℕ → Body → Type 0
HasOnPin pin net (Gate cell inputs outputs) = ⊥
HasOnPin pin net (Scan nets) = net_of_pin nets pin ≡ net

-- the nets of all pins, the input pins first
abbrev pub pin_nets : Body → List ℕ
pin_nets body = input_nets body ++ output_nets body

-- the instance is a scan instance
abbrev pub IsScan : Body → Type 0
IsScan (Gate cell inputs outputs) = ⊥
IsScan (Scan nets) = Unit {0}

-- the instance is of the library cell at this place
abbrev pub IsOfCell : ℕ → Body → Type 0
IsOfCell place (Gate cell inputs outputs) = cell ≡ place
IsOfCell place (Scan nets) = ⊥

-- the subcircuit is that of the instance's cell
abbrev pub IsCellOf : List RawCell → Body → RawCell → Type 0
IsCellOf cells (Gate cell inputs outputs) raw = raw ≡ cell_of cells cell
IsCellOf cells (Scan nets) raw = ⊥

-- a library instance of this name
pub record IsNamedGate (chip : LinkedChip) (name : List ℕ) (u : ℕ) : Type 0 where
  pub part : Part
  pub at : slice_get chip.parts u ≡ Some part
  pub is_gate : IsGate part.body
  pub named : part.name ≡ name
