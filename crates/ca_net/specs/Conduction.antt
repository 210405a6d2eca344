-- When a device conducts, is open, or is unknown (Bryant 1984, the state of a transistor).
use Rattle.std.specs.Prelude.{ℕ, ◌≡◌, ◌⊎◌, List}
use Rattle.ca_net.specs.declared.trit.Trit.{Trit}
use Rattle.ca_net.specs.declared.trit.Trit.TheVariants.{Zero, One}
use Rattle.ca_net.specs.declared.device.DeviceKind.{DeviceKind}
use Rattle.ca_net.specs.declared.device.DeviceKind.TheVariants.{N, P, D}
use Rattle.ca_net.specs.declared.device.Device.{Device}
use Rattle.ca_net.specs.State.{value_at}

-- an n-device conducts at gate 1, a p-device at gate 0, a d-device always
abbrev pub ConductsAt : DeviceKind → Trit → Type 0
ConductsAt N gate = gate ≡ One
ConductsAt P gate = gate ≡ Zero
ConductsAt D gate = Unit {0}

-- an n-device is open at gate 0, a p-device at gate 1, a d-device never
abbrev pub OpenAt : DeviceKind → Trit → Type 0
OpenAt N gate = gate ≡ Zero
OpenAt P gate = gate ≡ One
OpenAt D gate = ⊥

-- the device conducts in the state
abbrev pub Conducts : List Trit → Device → Type 0
Conducts s d = ConductsAt d.kind (value_at s d.gate.0)

-- the device is open in the state
abbrev pub IsOpen : List Trit → Device → Type 0
IsOpen s d = OpenAt d.kind (value_at s d.gate.0)

-- the device lies between the two nodes, whichever of them is its drain
abbrev pub Links : Device → ℕ → ℕ → Type 0
Links d m n = ((d.a.0 ≡ m) × (d.b.0 ≡ n)) ⊎ ((d.b.0 ≡ m) × (d.a.0 ≡ n))
