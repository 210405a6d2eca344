-- The nets of a wiring: what drives and what loads them, which of them there are, and their order.
use Rattle.std.specs.Prelude.{ℕ, ◌+◌, ◌≡◌, ◌<◌, ◌⊎◌, ◌↔◌, Bool, true, false, List, [], ◌∷◌, ◌++◌, IsTrue}
use Rattle.std.specs.Prelude.{Some, IsSomeAnd, slice_get}
use Rattle.std.specs.List.{AllPairs, Contains, flat_map}
use Rattle.ca_wiring.specs.Joined.{AreJoined, IsEarliest}
use Rattle.ca_linked.specs.Drivers.{constant_place}
use Rattle.ca_wiring.specs.Wiring.{Meaning, Unknown, Broken, Library, ScanCell, WiredPart, Wiring, out_bits}

-- the wire of a constant
abbrev pub constant_wire : Wiring → Bool → ℕ
constant_wire wiring false = wiring.bits
constant_wire wiring true = wiring.bits + 1

-- the wire is on a pin, or a side of a join
pub record IsNamed (wiring : Wiring) (wire : ℕ) : Type 0 where
  pub named : Contains (flat_map (λ part. part.inputs ++ part.outputs) wiring.parts) wire
      ⊎ Contains (flat_map (λ join. join.left ∷ join.right ∷ []) wiring.joins) wire

-- what drives, and the wire that it drives: an input port's bit, by its place in the header; a constant that
-- is named; an output pin
pub data Driving : Type 0 where
  PortBit : ℕ → Driving
  ConstantBit : Bool → Driving
  OutputPin : ℕ → ℕ → Driving

-- what drives, drives this very wire
abbrev pub DrivesWire : Wiring → Driving → ℕ → Type 0
DrivesWire wiring (PortBit p) wire =
    IsSomeAnd (slice_get wiring.header p) (λ port. IsTrue port.is_input × (port.wire ≡ wire))
DrivesWire wiring (ConstantBit value) wire = (constant_wire wiring value ≡ wire) × IsNamed wiring wire
DrivesWire wiring (OutputPin u pin) wire =
    (part : WiredPart) × (slice_get wiring.parts u ≡ Some part) × (slice_get part.outputs pin ≡ Some wire)

-- the first of the two comes before the second: port bits in header order, the constants 0 and 1, and output
-- pins in netlist and pin order
abbrev pub ComesBefore : Driving → Driving → Type 0
ComesBefore (PortBit a) (PortBit b) = a < b
ComesBefore (PortBit a) (ConstantBit b) = Unit {0}
ComesBefore (PortBit a) (OutputPin u pin) = Unit {0}
ComesBefore (ConstantBit a) (PortBit b) = ⊥
ComesBefore (ConstantBit a) (ConstantBit b) = constant_place a < constant_place b
ComesBefore (ConstantBit a) (OutputPin u pin) = Unit {0}
ComesBefore (OutputPin u pin) (PortBit b) = ⊥
ComesBefore (OutputPin u pin) (ConstantBit b) = ⊥
ComesBefore (OutputPin u pin) (OutputPin w other) = (u < w) ⊎ ((u ≡ w) × (pin < other))

-- it drives a wire that is joined with this one
pub record Drives (wiring : Wiring) (wire : ℕ) (driving : Driving) : Type 0 where
  pub at : ℕ
  pub drives : DrivesWire wiring driving at
  pub joined : AreJoined wiring.joins at wire

-- an input pin or an output port's bit is on a wire that is joined with this one
pub record IsLoaded (wiring : Wiring) (wire : ℕ) : Type 0 where
  pub at : ℕ
  pub load : Contains (flat_map (λ part. part.inputs) wiring.parts ++ out_bits wiring) at
  pub joined : AreJoined wiring.joins at wire

-- A net is known by the earliest of its wires. It has a driver or a load.
pub record IsNet (wiring : Wiring) (wire : ℕ) : Type 0 where
  pub earliest : IsEarliest wiring.joins wire wire
  pub used : ((driving : Driving) × Drives wiring wire driving) ⊎ IsLoaded wiring wire

-- the list has the nets in net order, each by the earliest of its wires
pub record AreNets (wiring : Wiring) (nets : List ℕ) : Type 0 where
  pub ascending : AllPairs (λ a b. a < b) nets
  pub has : (wire : ℕ) → Contains nets wire ↔ IsNet wiring wire

-- the net of a wire, by its place in net order
pub record IsNetOf (wiring : Wiring) (nets : List ℕ) (wire net : ℕ) : Type 0 where
  pub earliest : ℕ
  pub is_earliest : IsEarliest wiring.joins wire earliest
  pub at : slice_get nets net ≡ Some earliest

-- the nets of some wires, each in its place
abbrev pub AreNetsOf : Wiring → List ℕ → List ℕ → List ℕ → Type 0
AreNetsOf wiring nets [] [] = Unit {0}
AreNetsOf wiring nets [] (net ∷ more) = ⊥
AreNetsOf wiring nets (wire ∷ wires) [] = ⊥
AreNetsOf wiring nets (wire ∷ wires) (net ∷ more) =
    IsNetOf wiring nets wire net × AreNetsOf wiring nets wires more

-- w drives a net on an input pin of u; both are of library cells
abbrev pub IsLibraryCell : Meaning → Type 0
IsLibraryCell Unknown = ⊥
IsLibraryCell (Broken rule) = ⊥
IsLibraryCell (Library raw) = Unit {0}
IsLibraryCell (ScanCell row) = ⊥

-- w drives a wire that is joined with that of an input pin of u; both are of library cells
pub record FeedsWire (wiring : Wiring) (w u : ℕ) : Type 0 where
  pub driver : WiredPart
  pub reader : WiredPart
  pub is_driver : slice_get wiring.parts w ≡ Some driver
  pub is_reader : slice_get wiring.parts u ≡ Some reader
  pub of_library : IsLibraryCell driver.meaning × IsLibraryCell reader.meaning
  pub from : ℕ
  pub to : ℕ
  pub driven : Contains driver.outputs from
  pub read : Contains reader.inputs to
  pub joined : AreJoined wiring.joins from to
