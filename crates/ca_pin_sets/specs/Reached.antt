-- Which input pins reach a net: a chain of resistors leads from the pin to the net through inner nets alone.
use Rattle.std.specs.Prelude.{ℕ, ◌≡◌, ◌<◌, ◌≤◌, ◌⊎◌, true, false, length, slice_get, Some}
use Rattle.ca_cell.specs.declared.raw.RawDevice.{RawDevice}
use Rattle.ca_cell.specs.declared.raw.RawCell.{RawCell}
use Rattle.ca_cell.specs.Devices.{has_gate}
use Rattle.ca_cell.specs.Rules.{IsRaw}
use Rattle.ca_pin_sets.specs.Homes.{is_input_net, home_of}

-- the device has its drain on one of two nets and its source on the other
abbrev pub IsBetween : RawDevice → ℕ → ℕ → Type 0
IsBetween device one other =
    ((device.drain ≡ one) × (device.source ≡ other)) ⊎ ((device.drain ≡ other) × (device.source ≡ one))

-- some resistor of the subcircuit, which is a device without a gate, is between two nets
pub record AreJoined (raw : RawCell) (one other : ℕ) : Type 0 where
  pub place : ℕ
  pub resistor : RawDevice
  pub there : slice_get raw.devices place ≡ Some resistor
  pub gateless : has_gate resistor.kind ≡ false
  pub between : IsBetween resistor one other

-- a chain of resistors leads from one net to another: each net that it comes to, the last too, is an inner
-- one, which stands after the pins
pub data Leads (raw : RawCell) (from : ℕ) : ℕ → Type 0 where
  Begins : {net : ℕ} → AreJoined raw from net → length raw.pins ≤ net → Leads raw from net
  Onward : {net : ℕ} (before : ℕ) → Leads raw from before → AreJoined raw before net → length raw.pins ≤ net
      → Leads raw from net

-- such a chain leads from an input pin to the net
pub record Reaches (raw : RawCell) (net pin : ℕ) : Type 0 where
  pub input : is_input_net raw.pins pin ≡ true
  pub chain : Leads raw pin net

-- the pin reaches the net, and no pin before it in pin order does
pub record IsFirstReaching (raw : RawCell) (net pin : ℕ) : Type 0 where
  pub reaches : Reaches raw net pin
  pub first : (other : ℕ) → Reaches raw net other → pin ≤ other

-- the net's home is the first input pin that reaches it, or the net itself where none does
abbrev pub HomeIsFirstReaching : Type 0
HomeIsFirstReaching =
    (raw : RawCell) (net : ℕ) → IsRaw raw → net < length raw.nets
    → IsFirstReaching raw net (home_of raw net)
    ⊎ ((home_of raw net ≡ net) × ((pin : ℕ) → Reaches raw net pin → ⊥))
