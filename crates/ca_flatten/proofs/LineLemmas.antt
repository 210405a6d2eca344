-- Each device of the flat network of a wired chip has a line.
use Rattle.std.proofs.Common.{ℕ, zero, suc, ◌+◌, ◌<◌, ◌≤◌, List, [], ◌∷◌, map, length, Bool, true, false}
use Rattle.std.proofs.Common.{cond, ◌&&◌, inl, inr, refl, sym, ap, subst, arith, ◌≡◌, ◌==◌}
use Rattle.std.specs.Prelude.{Option, Some, None, option_to_list}
use Rattle.std.specs.List.{All}
use Rattle.std.proofs.lemmas.List.Elements.{All-nil, All-cons, All-append, All-map, All-weaker}
use Rattle.ca_net.specs.declared.device.DeviceKind.{DeviceKind}
use Rattle.ca_net.specs.declared.device.DeviceKind.TheVariants as kind
use Rattle.ca_net.specs.declared.device.Device.{Device}
use Rattle.ca_net.specs.declared.node.NodeId.{NodeId}
use Rattle.ca_net.specs.declared.scale.TheConstants.{WEAKEST, STRONGEST}
use Rattle.ca_flat_text.specs.FlatText.{HasLine, HasLineBy}
use Rattle.ca_parts.specs.Part.{moved}
use Rattle.ca_cell.specs.declared.raw.RawCell.{RawCell}
use Rattle.ca_cell.specs.declared.raw.RawDevice.{RawDevice}
use Rattle.ca_cell.specs.declared.raw.RawPin.{RawPin}
use Rattle.ca_cell.specs.Raw.{node_of, device_of}
use Rattle.ca_cell.specs.Devices.{IsDevice, IsDeviceBy}
use Rattle.ca_cell.specs.declared.defect.Defect.{Defect}
use Rattle.ca_cell.specs.declared.defect.Defect.TheVariants.{OpenDrain, OpenSource, OpenGate, OpenPin}
use Rattle.ca_cell.specs.declared.defect.Defect.TheVariants.{Short}
use Rattle.ca_cell.specs.Defect.{drain_on, source_on, gate_on, is_gated, device_with, changed_from, new_device}
use Rattle.ca_flat.specs.declared.chip_defect.ChipDefect.{ChipDefect}
use Rattle.ca_flat.specs.Chip.{Instance, cell_at, circuit_at, count_of}
use Rattle.ca_flat.specs.Flat.{place, old_devices, defect_at, devices_of, devices_before, bridge_of, flat}
use Rattle.ca_linked.specs.declared.parts.Body.{Body}
use Rattle.ca_linked.specs.declared.parts.Body.TheVariants.{Gate, Scan}
use Rattle.ca_linked.specs.Linked.{LinkedChip, IsWired, IsBody}
use Rattle.ca_view.specs.Core.{core_instance, core_of, empty_cell}
use Rattle.ca_view.proofs.CorePartLemmas.{core_at, part_at}
use Rattle.ca_view.proofs.CoreIsChip.{body_of}

abbrev node_id : ℕ → NodeId
node_id n = record { 0 = n }

-- the device is a transistor, or a resistor, whose gate is its drain
abbrev IsSwitchBy : DeviceKind → Device → Type 0
IsSwitchBy kind.N d = (WEAKEST ≤ d.strength) × (d.strength ≤ STRONGEST)
IsSwitchBy kind.P d = (WEAKEST ≤ d.strength) × (d.strength ≤ STRONGEST)
IsSwitchBy kind.D d = (d.strength ≡ STRONGEST) × (d.gate ≡ d.a)

abbrev IsSwitch : Device → Type 0
IsSwitch d = IsSwitchBy d.kind d

-- each device of the subcircuit is one
abbrev HasSwitches : RawCell → Type 0
HasSwitches raw = All IsDevice raw.devices

switch_by : (pins : List RawPin) (k : DeviceKind) (device : RawDevice) → IsDeviceBy k device → IsSwitchBy k (device_of pins device)
switch_by pins kind.N device is = is
switch_by pins kind.P device is = is
switch_by pins kind.D device is = (is.0, ap (λ net. node_id (node_of pins net)) is.1)

chosen : (b : Bool) (x y : Device) → IsSwitch x → IsSwitch y → IsSwitch (cond b x y)
chosen true x y first second = first
chosen false x y first second = second

-- a device of this kind, of this strength and with these terminals
abbrev made : DeviceKind → ℕ → NodeId → NodeId → NodeId → Device
made k strength gate a b = record { kind = k; strength = strength; gate = gate; a = a; b = b }

-- with its drain on another node it is one still
drained : (k : DeviceKind) (strength new : ℕ) (gate a b : NodeId) → IsSwitch (made k strength gate a b) → IsSwitch (drain_on new (made k strength gate a b))
drained kind.N strength new gate a b is = is
drained kind.P strength new gate a b is = is
drained kind.D strength new gate a b is = (is.0, refl)

sourced : (k : DeviceKind) (strength new : ℕ) (gate a b : NodeId) → IsSwitch (made k strength gate a b) → IsSwitch (source_on new (made k strength gate a b))
sourced kind.N strength new gate a b is = is
sourced kind.P strength new gate a b is = is
sourced kind.D strength new gate a b is = is

-- a gate is moved of a transistor alone
gated : (k : DeviceKind) (strength new : ℕ) (gate a b : NodeId) (moves : Bool) → IsSwitch (made k strength gate a b)
    → IsSwitch (cond (is_gated (made k strength gate a b) && moves) (gate_on new (made k strength gate a b)) (made k strength gate a b))
gated kind.N strength new gate a b moves is = chosen moves (gate_on new (made kind.N strength gate a b)) (made kind.N strength gate a b) is is
gated kind.P strength new gate a b moves is = chosen moves (gate_on new (made kind.P strength gate a b)) (made kind.P strength gate a b) is is
gated kind.D strength new gate a b moves is = is

-- so is each device with a defect
kept : (defect : Defect) (new at : ℕ) (d : Device) → IsSwitch d → IsSwitch (device_with defect new at d)
kept (OpenDrain opened) new at d is = chosen (at == opened.0) (drain_on new d) d (drained d.kind d.strength new d.gate d.a d.b is) is
kept (OpenSource opened) new at d is = chosen (at == opened.0) (source_on new d) d (sourced d.kind d.strength new d.gate d.a d.b is) is
kept (OpenGate opened) new at d is = gated d.kind d.strength new d.gate d.a d.b (at == opened.0) is
kept (OpenPin pin) new at d is = gated d.kind d.strength new d.gate d.a d.b (d.gate.0 == pin.0) is
kept (Short low high) new at d is = is

all_changed : (defect : Defect) (new at : ℕ) (devices : List Device) → All IsSwitch devices → All IsSwitch (changed_from defect new at devices)
all_changed defect new at [] all = All-nil IsSwitch
all_changed defect new at (d ∷ more) all =
    All-cons IsSwitch (device_with defect new at d) (changed_from defect new (at + 1) more) (kept defect new at d (all 0 d (omega arith)))
    (all_changed defect new (at + 1) more (λ k other within. all (suc k) other (omega arith)))

all_old : (devices : List Device) (new : ℕ) (o : Option Defect) → All IsSwitch devices → All IsSwitch (old_devices devices new o)
all_old devices new None all = all
all_old devices new (Some defect) all = all_changed defect new 0 devices all

drawn : (k : DeviceKind) (to : ℕ → ℕ) (d : Device) → IsSwitchBy k d → HasLineBy k (moved to d)
drawn kind.N to d is = is
drawn kind.P to d is = is
drawn kind.D to d is = (inl is.0, ap (λ (n : NodeId). node_id (to n.0)) is.1)

moved_line : (to : ℕ → ℕ) (d : Device) → IsSwitch d → HasLine (moved to d)
moved_line to d is = drawn d.kind to d is

empty_switches : (qn : Option ℕ) → HasSwitches (empty_cell qn)
empty_switches None = All-nil IsDevice
empty_switches (Some net) = All-nil IsDevice

module _ (chip : LinkedChip) (wired : IsWired chip) where
  body_switches : (body : Body) → IsBody chip.cells body → HasSwitches (core_instance chip body).cell
  body_switches (Gate cell inputs outputs) is = is.is_raw.devices
  body_switches (Scan nets) is = empty_switches nets.qn

  instance_switches : (u : ℕ) → u < count_of (core_of chip) → All IsSwitch (circuit_at (core_of chip) u).devices
  instance_switches u lt =
      let has = part_at chip u lt in
      let body = body_of chip wired u has.part has.at in
      let raw : HasSwitches (cell_at (core_of chip) u) =
      subst (λ (i : Instance). HasSwitches i.cell) (sym (core_at chip u has.part has.at)) (body_switches has.part.body body) in
      All-map IsSwitch (device_of (cell_at (core_of chip) u).pins) (cell_at (core_of chip) u).devices
      (λ i d within. switch_by (cell_at (core_of chip) u).pins _ _ (raw i d within))

  instance_lines : (given : Option ChipDefect) (u : ℕ) → u < count_of (core_of chip) → All HasLine (devices_of (core_of chip) given u)
  instance_lines given u lt =
      let core = core_of chip in
      let olds = old_devices (circuit_at core u).devices (length (circuit_at core u).nodes) (defect_at given u) in
      All-map HasLine (moved (place core u)) olds
      (All-weaker IsSwitch (λ d. HasLine (moved (place core u) d)) (moved_line (place core u)) olds
      (all_old (circuit_at core u).devices (length (circuit_at core u).nodes) (defect_at given u) (instance_switches u lt)))

  lines_before : (given : Option ChipDefect) (u : ℕ) → u ≤ count_of (core_of chip) → All HasLine (devices_before (core_of chip) given u)
  unfolding devices_before
  lines_before given zero le = All-nil HasLine
  lines_before given (suc u) le =
      All-append HasLine (devices_before (core_of chip) given u) (devices_of (core_of chip) given u)
      (lines_before given u (omega arith)) (instance_lines given u (omega arith))

  added_line : (to : ℕ → ℕ) (defect : Defect) → All HasLine (map (moved to) (option_to_list (new_device defect)))
  added_line to (OpenDrain opened) = All-nil HasLine
  added_line to (OpenSource opened) = All-nil HasLine
  added_line to (OpenGate opened) = All-nil HasLine
  added_line to (OpenPin pin) = All-nil HasLine
  added_line to (Short low high) = All-cons HasLine _ [] (inr refl, refl) (All-nil HasLine)

  bridge_line : (given : Option ChipDefect) → All HasLine (bridge_of (core_of chip) given)
  bridge_line None = All-nil HasLine
  bridge_line (Some given) = added_line (place (core_of chip) given.instance) given.defect

  -- each device of the flat network has a line
  pub flat_lines : (given : Option ChipDefect) → All HasLine (flat (core_of chip) given).devices
  flat_lines given =
      All-append HasLine (devices_before (core_of chip) given (count_of (core_of chip))) (bridge_of (core_of chip) given)
      (lines_before given (count_of (core_of chip)) (omega arith)) (bridge_line given)
