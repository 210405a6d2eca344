-- A network with a defect: its devices by their places, and that it is well formed.
use Rattle.std.proofs.Common.{◌≡◌, ℕ, zero, suc, ◌+◌, ◌<◌, ◌≤◌, ◌^◌, List, Bool, true, false, [], ◌∷◌, ◌++◌}
use Rattle.std.proofs.Common.{length, inl, inr, refl, sym, ◌∙◌, ap, arith, length-append, append-nil}
use Rattle.std.proofs.Common.{add-zero, ◌==◌}
use Rattle.std.specs.Prelude.{cond, Option, Some, None, IsTrue, option_to_list, slice_get, IsSome}
use Rattle.std.specs.List.{All}
use Rattle.std.proofs.lemmas.List.Elements.{All-nil, All-cons, All-append}
use Rattle.std.proofs.lemmas.Option.{none-some, same_Some}
use Rattle.std.proofs.lemmas.Bool.Decides.{nat_tests}
use Rattle.ca_net.specs.declared.scale.TheConstants.{INNER_NODE}
use Rattle.ca_net.specs.declared.node.NodeKind.{NodeKind}
use Rattle.ca_net.specs.declared.node.NodeKind.TheVariants.{Storage}
use Rattle.ca_net.specs.declared.device.Device.{Device}
use Rattle.ca_net.specs.Circuit.{Circuit, IsWellFormed, HasSize, HasStrength, NamesWithin}
use Rattle.ca_net.proofs.ScaleLemmas.{bridge_is_strength}
use Rattle.ca_cell.specs.declared.raw.RawCell.{RawCell}
use Rattle.ca_cell.specs.Raw.{is_input, role_count, circuit_of, device_of}
use Rattle.ca_cell.specs.Rules.{KeepsRules}
use Rattle.ca_cell.specs.declared.rule.TheConstants.{MOST_NODES}
use Rattle.ca_cell.proofs.CircuitLemmas.{few_nodes, length-nodes_of, well_formed}
use Rattle.ca_cell.proofs.NodeLemmas.{few_devices}
use Rattle.std.proofs.lemmas.List.{length-map}
use Rattle.ca_cell.specs.declared.defect.Defect.{Defect}
use Rattle.ca_cell.specs.declared.defect.Defect.TheVariants.{OpenDrain, OpenSource, OpenGate, OpenPin}
use Rattle.ca_cell.specs.declared.defect.Defect.TheVariants.{Short}
use Rattle.std.specs.Prelude.{◌&&◌}
use Rattle.ca_cell.specs.Defect.{is_gated}
use Rattle.ca_cell.specs.Defect.{drain_on, source_on, gate_on, device_with, changed_from, changed_devices}
use Rattle.ca_cell.specs.Defect.{bridge, new_node, new_device, nodes_with, devices_with, circuit_with}
use Rattle.ca_cell.specs.Defect.{is_short, IsDefect}
use Rattle.ca_cell.specs.List.{faulty_of}
use Rattle.ca_cell.specs.code.Overlay.{IsFaulty}
use Rattle.ca_cell.proofs.ListLemmas.{slice_get-append_left, slice_get-append_end, length-append_some}
use Rattle.ca_cell.proofs.ListLemmas.{length-append_none, length-append_option}

-- as many devices as were there
pub length-changed_from : (defect : Defect) (new place : ℕ) (devices : List Device) → length (changed_from defect new place devices) ≡ length devices
length-changed_from defect new place [] = refl
length-changed_from defect new place (device ∷ more) = let rest = length-changed_from defect new (place + 1) more in omega arith

-- each device is changed by its place
pub slice_get-changed_from : (defect : Defect) (new place : ℕ) (devices : List Device) (k : ℕ) (device : Device) → slice_get devices k ≡ Some device
    → slice_get (changed_from defect new place devices) k ≡ Some (device_with defect new (place + k) device)
slice_get-changed_from defect new place [] k device there = absurd (none-some device there)
slice_get-changed_from defect new place (first ∷ more) zero device there =
    ap (λ d. Some (device_with defect new place d)) (same_Some first device there)
    ∙ ap (λ at. Some (device_with defect new at device)) (sym (add-zero place))
slice_get-changed_from defect new place (first ∷ more) (suc k) device there =
    let same : place + 1 + k ≡ place + suc k = omega arith in
    slice_get-changed_from defect new (place + 1) more k device there ∙ ap (λ at. Some (device_with defect new at device)) same

-- a device that was there is at its place
pub slice_get_kept : (devices : List Device) (new : ℕ) (defect : Defect) (place : ℕ) (device : Device) → slice_get devices place ≡ Some device
    → slice_get (devices_with devices new defect) place ≡ Some (device_with defect new place device)
slice_get_kept devices new defect place device there =
    slice_get-append_left (changed_devices devices new defect) (option_to_list (new_device defect)) place (device_with defect new place device)
    (slice_get-changed_from defect new 0 devices place device there
    ∙ ap (λ at. Some (device_with defect new at device)) (let same : 0 + place ≡ place = omega arith in same))

-- a new device is after all others
pub slice_get-new : (devices : List Device) (new : ℕ) (defect : Defect) (place : ℕ) (device : Device) → new_device defect ≡ Some device
    → place ≡ length devices → slice_get (devices_with devices new defect) place ≡ Some device
slice_get-new devices new defect place device is following =
    ap (λ o. slice_get (changed_devices devices new defect ++ option_to_list o) place) is
    ∙ slice_get-append_end (changed_devices devices new defect) device place (following ∙ sym (length-changed_from defect new 0 devices))

-- a fact of both is one of the chosen
either_holds : (P : Device → Type 0) (b : Bool) (x y : Device) → P x → P y → P (cond b x y)
either_holds P true x y first second = first
either_holds P false x y first second = second

-- a fact that each device keeps at its place holds of all
All-changed_from : (P Q : Device → Type 0) (defect : Defect) (new : ℕ) → ((place : ℕ) (d : Device) → P d → Q (device_with defect new place d))
    → (place : ℕ) (devices : List Device) → All P devices → All Q (changed_from defect new place devices)
All-changed_from P Q defect new keeps place [] all = All-nil Q
All-changed_from P Q defect new keeps place (device ∷ more) all =
    All-cons Q (device_with defect new place device) (changed_from defect new (place + 1) more) (keeps place device (all 0 device (omega arith)))
    (All-changed_from P Q defect new keeps (place + 1) more (λ k d within. all (suc k) d (omega arith)))

-- the strength of a device stays
strength_kept : (defect : Defect) (new place : ℕ) (device : Device) → HasStrength device → HasStrength (device_with defect new place device)
strength_kept (OpenDrain opened) new place device has = either_holds HasStrength _ _ _ (either_holds HasStrength (is_gated device) _ _ has has) has
strength_kept (OpenSource opened) new place device has = either_holds HasStrength _ _ _ has has
strength_kept (OpenGate opened) new place device has = either_holds HasStrength _ _ _ has has
strength_kept (OpenPin pin) new place device has = either_holds HasStrength _ _ _ has has
strength_kept (Short low high) new place device has = has

-- with the new node a device names nodes of the network
named_kept : (nodes : List NodeKind) (defect : Defect) (place : ℕ) (device : Device) → NamesWithin (length nodes) device
    → NamesWithin (length (nodes_with nodes defect)) (device_with defect (length nodes) place device)
named_kept nodes (OpenDrain opened) place device named =
    let long = length-append nodes (Storage INNER_NODE ∷ []) in
    let within : NamesWithin (length (nodes ++ Storage INNER_NODE ∷ [])) (drain_on (length nodes) device) =
    either_holds (NamesWithin (length (nodes ++ Storage INNER_NODE ∷ []))) (is_gated device) _ _
    (omega arith, omega arith, omega arith) (omega arith, omega arith, omega arith) in
    either_holds (NamesWithin (length (nodes ++ Storage INNER_NODE ∷ []))) (place == opened.0) (drain_on (length nodes) device) device
    within (omega arith, omega arith, omega arith)
named_kept nodes (OpenSource opened) place device named =
    let long = length-append nodes (Storage INNER_NODE ∷ []) in
    either_holds (NamesWithin (length (nodes ++ Storage INNER_NODE ∷ []))) (place == opened.0) (source_on (length nodes) device) device
    (omega arith, omega arith, omega arith) (omega arith, omega arith, omega arith)
named_kept nodes (OpenGate opened) place device named =
    let long = length-append nodes (Storage INNER_NODE ∷ []) in
    either_holds (NamesWithin (length (nodes ++ Storage INNER_NODE ∷ []))) (is_gated device && place == opened.0) (gate_on (length nodes) device) device
    (omega arith, omega arith, omega arith) (omega arith, omega arith, omega arith)
named_kept nodes (OpenPin pin) place device named =
    let long = length-append nodes (Storage INNER_NODE ∷ []) in
    either_holds (NamesWithin (length (nodes ++ Storage INNER_NODE ∷ []))) (is_gated device && device.gate.0 == pin.0) (gate_on (length nodes) device) device
    (omega arith, omega arith, omega arith) (omega arith, omega arith, omega arith)
named_kept nodes (Short low high) place device named =
    let same = ap length (append-nil nodes) in (omega arith, omega arith, omega arith)

-- a short is between different nodes in their order
pub short_ordered : (inputs low high : ℕ) → IsTrue (is_short inputs low high) → low < high
short_ordered inputs low high is = grind (arith, nat_tests)

-- the new device names nodes of the network, and has a strength
new_named : (net : Circuit) (inputs : ℕ) (defect : Defect) → IsDefect net inputs defect
    → All (NamesWithin (length (nodes_with net.nodes defect))) (option_to_list (new_device defect))
new_named net inputs (OpenDrain opened) listed = All-nil (NamesWithin (length (net.nodes ++ Storage INNER_NODE ∷ [])))
new_named net inputs (OpenSource opened) listed = All-nil (NamesWithin (length (net.nodes ++ Storage INNER_NODE ∷ [])))
new_named net inputs (OpenGate opened) listed = All-nil (NamesWithin (length (net.nodes ++ Storage INNER_NODE ∷ [])))
new_named net inputs (OpenPin pin) listed = All-nil (NamesWithin (length (net.nodes ++ Storage INNER_NODE ∷ [])))
new_named net inputs (Short low high) listed =
    let same = ap length (append-nil net.nodes) in
    let ordered = short_ordered inputs low.0 high.0 listed.1 in
    let P : Device → Type 0 = NamesWithin (length (net.nodes ++ [])) in
    All-cons P (bridge low high) [] (omega arith, omega arith, omega arith) (All-nil P)

new_strength : (defect : Defect) → All HasStrength (option_to_list (new_device defect))
new_strength (OpenDrain opened) = All-nil HasStrength
new_strength (OpenSource opened) = All-nil HasStrength
new_strength (OpenGate opened) = All-nil HasStrength
new_strength (OpenPin pin) = All-nil HasStrength
new_strength (Short low high) = All-cons HasStrength (bridge low high) [] bridge_is_strength (All-nil HasStrength)

-- the new node has a size of the scale
new_size : (defect : Defect) → All HasSize (option_to_list (new_node defect))
new_size (OpenDrain opened) = All-cons HasSize (Storage INNER_NODE) [] (inl refl) (All-nil HasSize)
new_size (OpenSource opened) = All-cons HasSize (Storage INNER_NODE) [] (inl refl) (All-nil HasSize)
new_size (OpenGate opened) = All-cons HasSize (Storage INNER_NODE) [] (inl refl) (All-nil HasSize)
new_size (OpenPin pin) = All-cons HasSize (Storage INNER_NODE) [] (inl refl) (All-nil HasSize)
new_size (Short low high) = All-nil HasSize

-- a network with a defect is well formed
pub well_formed_with : (net : Circuit) (inputs : ℕ) (defect : Defect) → IsWellFormed net → length net.nodes + 1 < 2 ^ 32 → length net.devices + 1 < 2 ^ 32
    → IsDefect net inputs defect → IsWellFormed (circuit_with net defect)
well_formed_with net inputs defect formed few_nodes few_devices listed =
    let changed = changed_devices net.devices (length net.nodes) defect in
    record {
      few_nodes = let most = length-append_option net.nodes (new_node defect) in omega arith;
      few_devices =
          let same = length-changed_from defect (length net.nodes) 0 net.devices in
          let most = length-append_option changed (new_device defect) in omega arith;
      named = All-append (NamesWithin (length (nodes_with net.nodes defect))) changed (option_to_list (new_device defect))
          (All-changed_from (NamesWithin (length net.nodes)) (NamesWithin (length (nodes_with net.nodes defect))) defect (length net.nodes) (named_kept net.nodes defect) 0 net.devices formed.named)
          (new_named net inputs defect listed);
      sizes = All-append HasSize net.nodes (option_to_list (new_node defect)) formed.sizes (new_size defect);
      strengths = All-append HasStrength changed (option_to_list (new_device defect))
          (All-changed_from HasStrength HasStrength defect (length net.nodes) (strength_kept defect (length net.nodes)) 0 net.devices formed.strengths)
          (new_strength defect);
    }

-- a cell has few input pins
pub few_inputs : (raw : RawCell) → KeepsRules raw → role_count is_input raw.pins < MOST_NODES
few_inputs raw keeps = let few = few_nodes raw keeps in omega arith

-- a cell's network with one of its defects is well formed
pub faulty_is_well_formed : (raw : RawCell) (defect : Defect) → IsFaulty raw defect → IsWellFormed (faulty_of raw defect)
faulty_is_well_formed raw defect is =
    well_formed_with (circuit_of raw) (role_count is_input raw.pins) defect (well_formed raw is.is_raw is.keeps)
    (let count = length-nodes_of raw in let few = few_nodes raw is.keeps in omega arith)
    (let count = length-map raw.devices (device_of raw.pins) in let few = few_devices raw is.keeps in omega arith)
    is.listed

-- how many devices there are with the defect
pub one_more_device : (devices : List Device) (new : ℕ) (defect : Defect) (device : Device) → new_device defect ≡ Some device
    → length (devices_with devices new defect) ≡ length devices + 1
one_more_device devices new defect device is =
    let same = length-changed_from defect new 0 devices in
    let longer = length-append_some (changed_devices devices new defect) (new_device defect) device is in
    omega arith

pub no_more_devices : (devices : List Device) (new : ℕ) (defect : Defect) → new_device defect ≡ None → length (devices_with devices new defect) ≡ length devices
no_more_devices devices new defect is =
    let same = length-changed_from defect new 0 devices in
    let longer = length-append_none (changed_devices devices new defect) (new_device defect) is in
    omega arith

-- the one that the defect adds follows the devices that were there
pub adds_device : (devices : List Device) (new : ℕ) (defect : Defect) (place : ℕ) → place < length (devices_with devices new defect) → length devices ≤ place
    → IsSome (new_device defect)
adds_device devices new defect place within following = by (new_device defect) refl
  where
    by : (added : Option Device) → new_device defect ≡ added → IsSome added
    by None is = let none = no_more_devices devices new defect is in absurd (omega arith)
    by (Some device) is = refl

pub device_added : (devices : List Device) (new : ℕ) (defect : Defect) (place : ℕ) (device : Device) → new_device defect ≡ Some device
    → place < length (devices_with devices new defect) → length devices ≤ place → slice_get (devices_with devices new defect) place ≡ Some device
device_added devices new defect place device is within following =
    let longer = one_more_device devices new defect device is in slice_get-new devices new defect place device is (omega arith)
