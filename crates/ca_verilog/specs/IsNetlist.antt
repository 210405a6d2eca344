-- What each netlist that was read keeps, so that nobody above tests it again.
use Rattle.std.specs.Prelude.{ℕ, ◌≡◌, ◌≢◌, ◌+◌, ◌-◌, ◌<◌, ◌≤◌, ◌^◌, List, [], ◌∷◌, length, map, slice_get}
use Rattle.std.specs.Prelude.{Option, Some, None, ⊤}
use Rattle.std.specs.List.{All, Contains, IsDistinct}
use Rattle.std.specs.Str.{bytes_eq}
use Rattle.ca_verilog.specs.declared.netlist.TheConstants.{MOST_BITS}
use Rattle.ca_verilog.specs.declared.raw.RawBus.{RawBus}
use Rattle.ca_verilog.specs.declared.raw.RawBit.{RawBit}
use Rattle.ca_verilog.specs.declared.raw.RawBit.TheVariants as bit
use Rattle.ca_verilog.specs.declared.raw.RawJoin.{RawJoin}
use Rattle.ca_verilog.specs.declared.raw.RawInstance.{RawInstance}
use Rattle.ca_verilog.specs.declared.raw.RawNetlist.{RawNetlist}
use Rattle.ca_verilog.specs.declared.table.Direction.TheVariants as direction

-- the number of bits of a range: a name without one has one bit
abbrev pub range_width : Option (ℕ × ℕ) → ℕ
range_width None = 1
range_width (Some (left, right)) = (left - right) + (right - left) + 1

-- the number of bits of these names
abbrev pub bit_count : List RawBus → ℕ
bit_count [] = 0
bit_count (bus ∷ more) = range_width bus.range + bit_count more

-- the bit is a constant, or one of `count` bits
abbrev pub IsBit : ℕ → RawBit → Type 0
IsBit count (bit.Bit number) = number < count
IsBit count (bit.Constant value) = ⊤

-- nothing is on the pin, or such a bit
abbrev pub IsOnBit : ℕ → Option RawBit → Type 0
IsOnBit count None = ⊤
IsOnBit count (Some bit) = IsBit count bit

-- both bits are such
abbrev pub IsJoinOf : ℕ → RawJoin → Type 0
IsJoinOf count join = IsBit count join.left × IsBit count join.right

-- the pins have different names, and only such bits are on them
pub record IsInstanceOf (count : ℕ) (instance : RawInstance) : Type 0 where
  pub distinct : IsDistinct bytes_eq (map (λ used. used.pin) instance.pins)
  pub on_bits : All (λ used. IsOnBit count used.bit) instance.pins

-- the name at this place is a port
abbrev pub IsPort : List RawBus → ℕ → Type 0
IsPort buses place = (bus : RawBus) × (slice_get buses place ≡ Some bus) × (bus.direction ≢ direction.Inner)

-- there are at most 131,072 bits and fewer than 2^30 instances; the names of buses are different, and so are
-- those of instances and those of the pins of each; all bits are declared ones; the ports are the places of
-- the names with a direction, each once
pub record IsNetlist (raw : RawNetlist) : Type 0 where
  pub few_bits : bit_count raw.buses ≤ MOST_BITS
  pub few_instances : length raw.instances < 2 ^ 30
  pub distinct_buses : IsDistinct bytes_eq (map (λ bus. bus.name) raw.buses)
  pub are_ports : All (IsPort raw.buses) raw.ports
  pub each_port : (place : ℕ) → IsPort raw.buses place → Contains raw.ports place
  pub once : (j k place : ℕ) → slice_get raw.ports j ≡ Some place → slice_get raw.ports k ≡ Some place
      → j ≡ k
  pub joins : All (IsJoinOf (bit_count raw.buses)) raw.joins
  pub distinct_instances : IsDistinct bytes_eq (map (λ instance. instance.name) raw.instances)
  pub instances : All (IsInstanceOf (bit_count raw.buses)) raw.instances
