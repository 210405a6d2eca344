-- A network that is in another with its nodes renamed.
use Rattle.std.specs.Prelude.{ℕ, ◌≡◌, ◌<◌, ◌⊎◌, length}
use Rattle.std.specs.List.{Contains}
use Rattle.ca_net.specs.declared.device.Device.{Device}
use Rattle.ca_net.specs.Circuit.{Circuit, kind_at, IsStorage}

-- the device with its nodes renamed
abbrev pub moved : (ℕ → ℕ) → Device → Device
moved to d = record {
  kind = d.kind;
  strength = d.strength;
  gate = record { 0 = to d.gate.0 };
  a = record { 0 = to d.a.0 };
  b = record { 0 = to d.b.0 };
}

-- a storage node, or one that some device joins
abbrev pub OnChannel : Circuit → ℕ → Type 0
OnChannel net n = IsStorage net n ⊎ ((d : Device) × Contains net.devices d × ((d.a.0 ≡ n) ⊎ (d.b.0 ≡ n)))

-- The network c is in f with its nodes renamed. Two nodes may become one where no device joins them, as two
-- input pins on one net. The storage nodes of c are joined in f by the devices of c alone.
pub record IsPart (c f : Circuit) (to : ℕ → ℕ) : Type 0 where
  pub within : (n : ℕ) → n < length c.nodes → to n < length f.nodes
  pub distinct : (m n : ℕ) → OnChannel c m → OnChannel c n → to m ≡ to n → m ≡ n
  pub kinds : (n : ℕ) → OnChannel c n → kind_at f (to n) ≡ kind_at c n
  pub into : (d : Device) → Contains c.devices d → Contains f.devices (moved to d)
  pub out : (n : ℕ) (e : Device) → IsStorage c n → Contains f.devices e → (e.a.0 ≡ to n) ⊎ (e.b.0 ≡ to n)
      → (d : Device) × Contains c.devices d × (moved to d ≡ e)
