-- What drives a net of a linked chip is what drives the wires of that net in its wiring.
use Rattle.std.specs.Prelude.{ℕ, ◌≡◌, ◌↔◌, Some, slice_get}
use Rattle.ca_wiring.specs.Wiring.{Wiring}
use Rattle.ca_wiring.specs.Nets.{Driving, PortBit, ConstantBit, OutputPin}
use Rattle.ca_wiring.specs.Nets as nets
use Rattle.ca_linked.specs.declared.parts.Source.{Source}
use Rattle.ca_linked.specs.declared.parts.Source.TheVariants.{FromPort, FromConstant, FromPin}
use Rattle.ca_linked.specs.Linked.{LinkedChip, Drives}
use Rattle.ca_linked.specs.Drivers.{AreFirstTwo}
use Rattle.ca_wiring.specs.Linking.{IsLinkOf}

-- what the source is in the wiring
abbrev pub driving_of : Source → Driving
driving_of (FromPort p) = PortBit p
driving_of (FromConstant value) = ConstantBit value
driving_of (FromPin u pin) = OutputPin u pin

-- the same drives the net in the chip, and the wires of that net in the wiring
abbrev pub HasSameDrivers : Type 0
HasSameDrivers =
    (wiring : Wiring) (chip : LinkedChip) (link : IsLinkOf wiring chip) (net wire : ℕ)
    → slice_get link.nets net
    ≡ Some wire
    → (source : Source) → Drives chip net source ↔ nets.Drives wiring wire (driving_of source)

-- two drive the wires of a net, the first two of all that do
pub record AreFirstDrivings (wiring : Wiring) (wire : ℕ) (one two : Driving) : Type 0 where
  pub drives_one : nets.Drives wiring wire one
  pub drives_two : nets.Drives wiring wire two
  pub in_order : nets.ComesBefore one two
  pub none_before : (other : Driving) → nets.Drives wiring wire other → nets.ComesBefore other two → other
      ≡ one

-- the first two that drive a net of the chip are the first two in the wiring
abbrev pub HasSameFirstTwo : Type 0
HasSameFirstTwo =
    (wiring : Wiring) (chip : LinkedChip) (link : IsLinkOf wiring chip) (net wire : ℕ)
    → slice_get link.nets net
    ≡ Some wire
    → (one two : Source) → AreFirstTwo (Drives chip net) one two
    → AreFirstDrivings wiring wire (driving_of one) (driving_of two)
