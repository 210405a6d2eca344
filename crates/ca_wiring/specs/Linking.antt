-- The chip that a wiring gives.
use Rattle.std.specs.Prelude.{ℕ, ◌≡◌, ◌↔◌, Bool, List, [], length, Some, IsNone, slice_get}
use Rattle.ca_cell.specs.declared.raw.RawCell.{RawCell}
use Rattle.ca_linked.specs.declared.parts.Body.{Body}
use Rattle.ca_linked.specs.declared.parts.Part.{Part}
use Rattle.ca_linked.specs.declared.parts.PortBit.{PortBit}
use Rattle.ca_linked.specs.declared.parts.Body.TheVariants.{Gate, Scan}
use Rattle.ca_linked.specs.Linked.{input_nets, output_nets, LinkedChip, constant_net}
use Rattle.ca_wiring.specs.Wiring.{Meaning, Unknown, Broken, Library, ScanCell, WiredPart, HeaderBit, Wiring}
use Rattle.ca_wiring.specs.Nets.{ConstantBit, Drives, AreNets, IsNetOf, AreNetsOf}

-- the body is that of an instance with this meaning: of the cell that its name means, or of a scan cell with
-- its inverted output exactly where the row names one
abbrev pub HasMeaning : List RawCell → Meaning → Body → Type 0
HasMeaning cells Unknown body = ⊥
HasMeaning cells (Broken rule) body = ⊥
HasMeaning cells (Library raw) (Gate cell inputs outputs) = slice_get cells cell ≡ Some raw
HasMeaning cells (Library raw) (Scan pins) = ⊥
HasMeaning cells (ScanCell row) (Gate cell inputs outputs) = ⊥
HasMeaning cells (ScanCell row) (Scan pins) = IsNone pins.qn ↔ (row.qn ≡ [])

-- the name of the data pin of a cell with this meaning, if it is a scan cell
abbrev pub data_name : Meaning → List ℕ
data_name Unknown = []
data_name (Broken rule) = []
data_name (Library raw) = []
data_name (ScanCell row) = row.d

-- the instance is that of the wiring, with its name, its cell, the name of its data pin and the net of each
-- pin
pub record IsPartOf (wiring : Wiring) (nets : List ℕ) (cells : List RawCell) (wired : WiredPart)
    (part : Part) : Type 0 where
  pub name : part.name ≡ wired.name
  pub cell : part.cell ≡ wired.cell
  pub data_pin : part.«data» ≡ data_name wired.meaning
  pub meaning : HasMeaning cells wired.meaning part.body
  pub inputs : AreNetsOf wiring nets wired.inputs (input_nets part.body)
  pub outputs : AreNetsOf wiring nets wired.outputs (output_nets part.body)

-- the port bit is that of the header, with its name, its direction and its net
pub record IsPortOf (wiring : Wiring) (nets : List ℕ) (bit : HeaderBit) (port : PortBit) : Type 0 where
  pub name : port.name ≡ bit.name
  pub is_input : port.is_input ≡ bit.is_input
  pub net : IsNetOf wiring nets bit.wire port.net

-- the nets of the chip are those of the wiring, in net order; each constant drives its net; and so have the
-- instances their pins
pub record IsLinkOf (wiring : Wiring) (chip : LinkedChip) : Type 0 where
  pub nets : List ℕ
  pub are : AreNets wiring nets
  pub count : chip.nets ≡ length nets
  pub constants : (net wire : ℕ) (value : Bool) → slice_get nets net ≡ Some wire
      → (constant_net chip value ≡ Some net) ↔ Drives wiring wire (ConstantBit value)
  pub same_parts : length chip.parts ≡ length wiring.parts
  pub parts : (u : ℕ) (wired : WiredPart) (part : Part) → slice_get wiring.parts u ≡ Some wired
      → slice_get chip.parts u ≡ Some part
      → IsPartOf wiring nets chip.cells wired part
  pub same_ports : length chip.ports ≡ length wiring.header
  pub ports : (p : ℕ) (bit : HeaderBit) (port : PortBit) → slice_get wiring.header p ≡ Some bit
      → slice_get chip.ports p ≡ Some port
      → IsPortOf wiring nets bit port
