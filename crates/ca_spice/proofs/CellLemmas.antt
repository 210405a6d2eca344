-- Nets and devices stay within bounds as they grow.
use Rattle.std.proofs.Common.{◌≡◌, ℕ, ◌+◌, ◌<◌, ◌≤◌, ◌^◌, List, Bool, true, false, cond, [], ◌∷◌, ◌++◌}
use Rattle.std.proofs.Common.{length, map, Option, Some, None, refl, sym, ◌∙◌, ap, subst, arith}
use Rattle.std.proofs.Common.{length-append, ◌||◌, not}
use Rattle.std.specs.Str.{bytes_eq}
use Rattle.std.proofs.lemmas.List.{map-append, length-map}
use Rattle.std.proofs.lemmas.List.Elements.{All-push, All-weaker}
use Rattle.std.proofs.lemmas.Option.{same_Some}
use Rattle.ca_net.specs.declared.scale.TheConstants.{WEAKEST, STRONGEST}
use Rattle.ca_net.specs.declared.device.DeviceKind.{DeviceKind}
use Rattle.ca_net.specs.declared.device.DeviceKind.TheVariants as kind
use Rattle.ca_cell.specs.declared.raw.Role.{Role}
use Rattle.ca_cell.specs.declared.raw.RawPin.{RawPin}
use Rattle.ca_cell.specs.declared.raw.RawDevice.{RawDevice}
use Rattle.ca_cell.specs.declared.raw.RawCell.{RawCell}
use Rattle.ca_cell.specs.Devices.{has_gate, IsDeviceBy, IsDevice}
use Rattle.ca_cell.specs.declared.strength.StrengthTable.{StrengthTable}
use Rattle.ca_cell.specs.Strength.{strength_of}
use Rattle.ca_cell.proofs.StrengthLemmas.{strength_of-least, strength_of-most}
use Rattle.ca_cell.specs.Rules.{PlacesWithin, IsRaw}
use Rattle.ca_spice.specs.declared.pin.Pin.{Pin}
use Rattle.ca_spice.specs.declared.subcircuit.Subcircuit.{Subcircuit}
use Rattle.std.proofs.lemmas.Slice.Eq.{bytes_eq-Decides}
use Rattle.ca_names.specs.Names.{has_name, with_name, place_with}
use Rattle.ca_spice.specs.Mos.{Wiring, Sizes}
use Rattle.ca_spice.specs.code.Mos.{IsWiring}
use Rattle.ca_spice.specs.OpenCell.{has_device, device_strength, pins_after}
use Rattle.ca_spice.specs.Reading.{has_cell}
use Rattle.ca_spice.specs.code.Kept.{IsSound, IsPlaced, IsPlacedCell}

-- names never become fewer
pub with_name-longer : (name : List ℕ) (names : List (List ℕ)) → length names ≤ length (with_name name names)
with_name-longer name names = by (has_name name names)
  where
    by : (found : Bool) → length names ≤ length (cond found names (names ++ name ∷ []))
    by true = omega arith
    by false = simp length-append (omega arith)

-- what is placed stays so with more nets and one device more
pub IsPlaced-grown : (pins : ℕ) (nets more : List (List ℕ)) (devices : List RawDevice) (device : RawDevice) → IsPlaced pins nets devices
    → length nets ≤ length more → length more < 2 ^ 32 → length (devices ++ device ∷ []) < 2 ^ 32
    → PlacesWithin (length more) device → IsSound device → IsPlaced pins more (devices ++ device ∷ [])
IsPlaced-grown pins nets more devices device placed longer few few_devices within own = record {
  few_nets = few;
  few_devices = few_devices;
  pins_within = omega (arith, placed.pins_within);
  places = All-push (PlacesWithin (length more)) devices device
      (All-weaker (PlacesWithin (length nets)) (PlacesWithin (length more))
      (λ other held. record { drain = omega (arith, held.drain); gate = omega (arith, held.gate); source = omega (arith, held.source) })
      devices placed.places) within;
  sound = All-push IsSound devices device placed.sound own;
}

-- the names of devices are looked up as the devices are
pub has_name-devices : (name : List ℕ) (devices : List RawDevice) → has_name name (map (λ device. device.name) devices) ≡ has_device name devices
has_name-devices name [] = refl
has_name-devices name (device ∷ devices) = ap (λ more. bytes_eq name device.name || more) (has_name-devices name devices)

-- and the names of subcircuits as these are
pub has_name-cells : (name : List ℕ) (cells : List Subcircuit) → has_name name (map (λ cell. cell.name) cells) ≡ has_cell name cells
has_name-cells name [] = refl
has_name-cells name (cell ∷ cells) = ap (λ more. bytes_eq name cell.name || more) (has_name-cells name cells)

-- there are as many pins with roles as pins
pub pins_after-length : (done : List RawPin) (pins : List Pin) (raw : List RawPin) → pins_after done pins ≡ Some raw → length raw ≡ length done + length pins
unfolding pins_after
pins_after-length done [] raw all = omega (arith, ap length (same_Some done raw all))
pins_after-length done (pin ∷ pins) raw all = by pin.role (λ grown. pins_after-length grown pins raw) all
  where
    by : (given : Option Role)
        → ((grown : List RawPin) → pins_after grown pins ≡ Some raw → length raw ≡ length grown + length pins)
        → elim given as (λ _. Option (List RawPin)) [ None ↦ None | Some role ↦ pins_after (done ++ record { name = pin.name; role = role } ∷ []) pins ] ≡ Some raw
        → length raw ≡ length done + length (pin ∷ pins)
    by None later is = absurd cc
    by (Some role) later is =
        let shown : RawPin = record { name = pin.name; role = role } in
        omega (arith, later (done ++ shown ∷ []) is, length-append done (shown ∷ []))

-- a strength that a table gave is that of some transistor
pub class_of : (table : StrengthTable) (width channel strength : ℕ) → strength ≡ strength_of table width channel → (WEAKEST ≤ strength) × (strength ≤ STRONGEST)
class_of table width channel strength is =
    let least = strength_of-least table width channel in
    let most = strength_of-most table width channel in
    (omega (arith, is, least), omega (arith, is, most))

-- a name is where it was among the names with it
placed_among : (name : List ℕ) (names : List (List ℕ)) → place_with name (names ++ name ∷ []) ≡ place_with name names
placed_among name [] = ap (λ (same : Bool). cond (not same) 1 0) ((bytes_eq-Decides name name).1 refl)
placed_among name (first ∷ names) = ap (λ (place : ℕ). cond (not (bytes_eq name first)) (1 + place) 0) (placed_among name names)

pub placed_again : (name : List ℕ) (names : List (List ℕ)) → place_with name (with_name name names) ≡ place_with name names
placed_again name names = by (has_name name names)
  where
    by : (found : Bool) → place_with name (cond found names (names ++ name ∷ [])) ≡ place_with name names
    by true = refl
    by false = placed_among name names

-- the device of a card is a transistor or a resistor
sound_by : (table : StrengthTable) (k : DeviceKind) (sizes : Sizes) → (WEAKEST ≤ device_strength table k sizes) × (device_strength table k sizes ≤ STRONGEST)
sound_by table kind.N sizes = class_of table sizes.width sizes.length (strength_of table sizes.width sizes.length) refl
sound_by table kind.P sizes = class_of table sizes.width sizes.length (strength_of table sizes.width sizes.length) refl
sound_by table kind.D sizes = (omega arith, omega arith)

strongest : (table : StrengthTable) (k : DeviceKind) (sizes : Sizes) → has_gate k ≡ false → device_strength table k sizes ≡ STRONGEST
strongest table kind.N sizes gateless = absurd cc
strongest table kind.P sizes gateless = absurd cc
strongest table kind.D sizes gateless = refl

pub sound_device : (table : StrengthTable) (sizes : Sizes) (wiring : Wiring) (device : RawDevice) (nets first : List (List ℕ)) → device.kind ≡ wiring.kind → IsWiring wiring
    → device.strength ≡ device_strength table wiring.kind sizes → device.drain ≡ place_with wiring.drain nets → device.gate ≡ place_with wiring.gate first
    → first ≡ with_name wiring.drain nets → IsSound device
sound_device table sizes wiring device nets first same gated is drain gate grown =
    let within = sound_by table wiring.kind sizes in
    record {
      least = subst (λ (n : ℕ). WEAKEST ≤ n) (sym is) within.0;
      most = subst (λ (n : ℕ). n ≤ STRONGEST) (sym is) within.1;
      resistor = λ gateless.
          let none : has_gate wiring.kind ≡ false = ap has_gate (sym same) ∙ gateless in (
            is ∙ strongest table wiring.kind sizes none,
            gate ∙ ap (λ (name : List ℕ). place_with name first) (gated none) ∙ ap (place_with wiring.drain) grown
                ∙ placed_again wiring.drain nets ∙ sym drain,
          );
    }

-- a sound device is a transistor or a resistor
device_by : (k : DeviceKind) (device : RawDevice) → device.kind ≡ k → IsSound device → IsDeviceBy k device
device_by kind.N device is sound = (sound.least, sound.most)
device_by kind.P device is sound = (sound.least, sound.most)
device_by kind.D device is sound = sound.resistor (ap has_gate is)

-- a placed subcircuit is one from which an entry can be made
pub IsPlaced-IsRaw : (raw : RawCell) → IsPlacedCell raw → IsRaw raw
IsPlaced-IsRaw raw placed = record {
  few_nets = placed.few_nets;
  few_devices = placed.few_devices;
  pins = placed.pins_within;
  places = placed.places;
  devices = All-weaker IsSound IsDevice (λ device sound. device_by device.kind device refl sound) raw.devices placed.sound;
}

-- names with one more are not fewer
pub longer : (name : List ℕ) (old new : List (List ℕ)) → new ≡ with_name name old → length old ≤ length new
longer name old new is = subst (λ (names : List (List ℕ)). length old ≤ length names) (sym is) (with_name-longer name old)

-- a device is known by its name
pub known_device : (name : List ℕ) (names : List (List ℕ)) (devices : List RawDevice) (found : Bool) → names ≡ map (λ device. device.name) devices
    → found ≡ has_name name names → has_device name devices ≡ found
known_device name names devices found named is = sym (has_name-devices name devices) ∙ ap (has_name name) (sym named) ∙ sym is

-- the names of devices grow with the devices
pub named_grown : (name : List ℕ) (names more : List (List ℕ)) (devices grown : List RawDevice) (device : RawDevice) → names ≡ map (λ device. device.name) devices
    → has_device name devices ≡ false → more ≡ with_name name names → grown ≡ devices ++ device ∷ [] → device.name ≡ name
    → more ≡ map (λ device. device.name) grown
named_grown name names more devices grown device named new names_are devices_are is =
    names_are
    ∙ ap (λ found. cond found names (names ++ name ∷ [])) (ap (has_name name) named ∙ has_name-devices name devices ∙ new)
    ∙ ap (λ (all : List (List ℕ)). all ++ name ∷ []) named
    ∙ ap (λ (last : List ℕ). map (λ device. device.name) devices ++ last ∷ []) (sym is)
    ∙ sym (map-append (λ (d : RawDevice). d.name) devices (device ∷ []))
    ∙ ap (map (λ (d : RawDevice). d.name)) (sym devices_are)

-- nets and devices with those of one transistor more stay placed
pub placed_grown : (pins : ℕ) (nets first second third names : List (List ℕ)) (devices grown : List RawDevice) (device : RawDevice) → IsPlaced pins nets devices
    → grown ≡ devices ++ device ∷ [] → names ≡ map (λ device. device.name) grown → length names < 2 ^ 32 → length third < 2 ^ 32
    → length nets ≤ length first → length first ≤ length second → length second ≤ length third
    → device.drain < length first → device.gate < length second → device.source < length third → IsSound device
    → IsPlaced pins third grown
placed_grown pins nets first second third names devices grown device placed devices_are named few few_nets to_first to_second to_third drain gate source own =
    let count : length names ≡ length grown = ap length named ∙ length-map grown (λ (d : RawDevice). d.name) in
    let few_devices : length (devices ++ device ∷ []) < 2 ^ 32 = subst (λ (all : List RawDevice). length all < 2 ^ 32) devices_are (omega arith) in
    subst (IsPlaced pins third) (sym devices_are)
    (IsPlaced-grown pins nets third devices device placed (omega arith) few_nets few_devices (record { drain = omega arith; gate = omega arith; source = source }) own)
