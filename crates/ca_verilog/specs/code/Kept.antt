-- What each reading keeps.
use Rattle.std.specs.Prelude.{ℕ, ◌≡◌, ◌<◌, Bool, true, false, List, length, map, Option, Some, None, ⊤}
use Rattle.std.specs.List.{All, IsDistinct, list_all}
use Rattle.std.specs.Str.{bytes_eq}
use Rattle.ca_names.specs.Names.{has_name}
use Rattle.ca_verilog.specs.declared.bus.Bus.{Bus}
use Rattle.ca_verilog.specs.declared.instance.Operand.{Operand}
use Rattle.ca_verilog.specs.declared.instance.Operand.TheVariants.{Whole, Bit, Constant}
use Rattle.ca_verilog.specs.declared.instance.Join.{Join}
use Rattle.ca_verilog.specs.declared.instance.Use.{Use}
use Rattle.ca_verilog.specs.declared.instance.Instance.{Instance}
use Rattle.ca_verilog.specs.declared.table.Place.{Place}
use Rattle.ca_verilog.specs.declared.table.Place.TheVariants as place
use Rattle.ca_verilog.specs.declared.table.Side.TheVariants as side
use Rattle.ca_verilog.specs.declared.table.Range.{Range}
use Rattle.ca_verilog.specs.Bus.{is_inner, has_direction, range_at}
use Rattle.ca_verilog.specs.Instance.{has_pin, has_instance}
use Rattle.ca_verilog.specs.Reading.{Hand, Reading, has_index, width_of}
use Rattle.ca_verilog.specs.Text.{is_end}

-- the index is one of the range's
abbrev pub IsIndexOf : ℕ → Option Range → Type 0
IsIndexOf index None = ⊥
IsIndexOf index (Some range) = has_index index range ≡ true

-- the operand is of declared names
abbrev pub IsOperand : List Bus → Operand → Type 0
IsOperand buses (Whole place) = place < length buses
IsOperand buses (Bit place index) = (place < length buses) × IsIndexOf index (range_at place buses)
IsOperand buses (Constant value) = ⊤

-- nothing is on the pin, or such an operand
abbrev pub IsUsed : List Bus → Option Operand → Type 0
IsUsed buses None = ⊤
IsUsed buses (Some operand) = IsOperand buses operand

-- both sides are of declared names, and have the same number of bits
pub record IsJoin (buses : List Bus) (join : Join) : Type 0 where
  pub left_side : IsOperand buses join.left
  pub right_side : IsOperand buses join.right
  pub same_width : width_of buses join.left ≡ width_of buses join.right

-- different pins, with operands of declared names
pub record AreUses (buses : List Bus) (uses : List Use) : Type 0 where
  pub distinct : IsDistinct bytes_eq (map (λ used. used.pin) uses)
  pub used : All (λ used. IsUsed buses used.operand) uses

-- a name with a direction is one of the header's
abbrev pub IsOfHeader : List (List ℕ) → Bus → Type 0
IsOfHeader ports bus = is_inner bus.direction ≡ false → has_name bus.name ports ≡ true

-- different names are declared, those with a direction are of the header, and the header's are different
pub record AreNames (ports : List (List ℕ)) (buses : List Bus) : Type 0 where
  pub distinct_ports : IsDistinct bytes_eq ports
  pub distinct_buses : IsDistinct bytes_eq (map (λ bus. bus.name) buses)
  pub of_header : All (IsOfHeader ports) buses

-- different instances, with such pins
pub record AreInstances (buses : List Bus) (instances : List Instance) : Type 0 where
  pub distinct : IsDistinct bytes_eq (map (λ instance. instance.name) instances)
  pub each : All (λ instance. AreUses buses instance.uses) instances

-- the pins and operands in hand are of declared names
pub record IsHand (buses : List Bus) (hand : Hand) : Type 0 where
  pub uses : AreUses buses hand.uses
  pub left_side : IsOperand buses hand.left
  pub operand : IsOperand buses hand.operand

-- a pin is in hand at this place
abbrev pub in_pin : Place → Bool
in_pin place.PinOpen = true
in_pin place.PinValue = true
in_pin (place.Operand side.Pin) = true
in_pin (place.NameEnd side.Pin) = true
in_pin (place.Index side.Pin) = true
in_pin (place.IndexEnd side.Pin) = true
in_pin (place.OperandEnd side.Pin) = true
in_pin _ = false

-- an instance is in hand at this place
abbrev pub in_instance : Place → Bool
in_instance place.Pins = true
in_instance place.FirstPin = true
in_instance place.NextPin = true
in_instance place.PinName = true
in_instance place.PinEnd = true
in_instance place.InstanceEnd = true
in_instance other = in_pin other

-- the instance in hand has a new name, and so has its pin
pub record IsNew (at : Place) (hand : Hand) (instances : List Instance) : Type 0 where
  pub name : in_instance at ≡ true → has_instance hand.name instances ≡ false
  pub pin : in_pin at ≡ true → has_pin hand.pin hand.uses ≡ false

-- each name of the header has a direction at the module's end
abbrev pub IsClosed : Place → List (List ℕ) → List Bus → Type 0
IsClosed at ports buses = is_end at ≡ true → list_all (has_direction buses) ports ≡ true

-- what each reading keeps that is at this place
pub record IsKept (at : Place) (it : Reading) : Type 0 where
  pub names : AreNames it.ports it.buses
  pub closed : IsClosed at it.ports it.buses
  pub joins : All (IsJoin it.buses) it.joins
  pub instances : AreInstances it.buses it.instances
  pub hand : IsHand it.buses it.hand
  pub new : IsNew at it.hand it.instances

-- a whole text was read: the reading is at the module's end
pub record IsWhole (it : Reading) : Type 0 where
  pub kept : IsKept it.place it
  pub over : is_end it.place ≡ true
