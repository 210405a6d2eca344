-- What proofs know of the scale of sizes and strengths: each storage size is at least 1, each is below each
-- device's strength, and each device's strength is below an input node's. No other file opens the constants.
use Rattle.std.proofs.Common.{◌≡◌, ℕ, ◌<◌, ◌≤◌, inl, inr, refl, arith}
use Rattle.ca_net.specs.declared.scale.TheConstants.{INNER_NODE, OUTPUT_NET, WEAKEST, STRONGEST, BRIDGE, INPUT}
use Rattle.ca_net.specs.declared.node.NodeKind.TheVariants.{Storage}
use Rattle.ca_net.specs.declared.device.DeviceKind.TheVariants.{D}
use Rattle.ca_net.specs.declared.device.Device.{Device}
use Rattle.ca_net.specs.Circuit.{HasSize, HasStrength, IsStrength}

-- each storage size is at least 1
pub size_pos : (size : ℕ) → HasSize (Storage size) → 0 < size
size_pos size (inl e) = let inner : size ≡ INNER_NODE = e in omega arith
size_pos size (inr e) = let net : size ≡ OUTPUT_NET = e in omega arith

-- each storage size is below each device's strength
pub size_below_strength : (size : ℕ) (d : Device) → HasSize (Storage size) → HasStrength d → size < d.strength
size_below_strength size d (inl e) strong = let inner : size ≡ INNER_NODE = e in let least : WEAKEST ≤ d.strength = strong.0 in omega arith
size_below_strength size d (inr e) strong = let net : size ≡ OUTPUT_NET = e in let least : WEAKEST ≤ d.strength = strong.0 in omega arith

-- each device's strength is below an input node's
pub strength_below_input : (d : Device) → HasStrength d → d.strength < INPUT
strength_below_input d strong = let most : d.strength ≤ BRIDGE = strong.1 in omega arith

-- so each device's strength is at least 1
pub strength_pos : (d : Device) → HasStrength d → 0 < d.strength
strength_pos d strong = let lt : INNER_NODE < d.strength = size_below_strength INNER_NODE d (inl refl) strong in omega arith

-- a strength of a transistor is one of a device
pub transistor_is_strength : (strength : ℕ) → WEAKEST ≤ strength → strength ≤ STRONGEST → IsStrength strength
transistor_is_strength strength least most = (least, omega arith)

-- and that of a bridge is
pub bridge_is_strength : IsStrength BRIDGE
bridge_is_strength = (omega arith, omega arith)

-- and an input node's strength is at least 1
pub input_pos : 0 < INPUT
input_pos =
    let bridge : Device = record { kind = D; strength = BRIDGE; gate = record { 0 = 0 }; a = record { 0 = 0 }; b = record { 0 = 0 } } in
    let lt : BRIDGE < INPUT = strength_below_input bridge bridge_is_strength in omega arith
