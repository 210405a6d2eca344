-- What the devices of a subcircuit are: transistors and resistors.
use Rattle.std.specs.Prelude.{ℕ, ◌+◌, ◌*◌, ◌≤◌, ◌≡◌, Bool, true, false, List, length, count_by}
use Rattle.ca_net.specs.declared.scale.TheConstants.{WEAKEST, STRONGEST}
use Rattle.ca_net.specs.declared.device.DeviceKind.{DeviceKind}
use Rattle.ca_net.specs.declared.device.DeviceKind.TheVariants.{N, P, D}
use Rattle.ca_cell.specs.declared.raw.RawDevice.{RawDevice}

-- a device of this kind has a gate: it is a transistor
abbrev pub has_gate : DeviceKind → Bool
has_gate N = true
has_gate P = true
has_gate D = false

-- a transistor has a strength of its scale; a resistor has the greatest of them, and its drain as its gate
abbrev pub IsDeviceBy : DeviceKind → RawDevice → Type 0
IsDeviceBy N device = (WEAKEST ≤ device.strength) × (device.strength ≤ STRONGEST)
IsDeviceBy P device = (WEAKEST ≤ device.strength) × (device.strength ≤ STRONGEST)
IsDeviceBy D device = (device.strength ≡ STRONGEST) × (device.gate ≡ device.drain)

-- the device is a transistor or a resistor
abbrev pub IsDevice : RawDevice → Type 0
IsDevice device = IsDeviceBy device.kind device

-- how many opens these devices have: each at its drain and at its source, and a transistor at its gate too
abbrev pub open_count : List RawDevice → ℕ
open_count devices = 2 * length devices + count_by (λ device. has_gate device.kind) devices
