-- The numbers of nodes and devices of a cell with a defect.
use Rattle.std.proofs.Common.{ℕ, ◌+◌, ◌≡◌, refl, sym, ap, ◌∙◌, length}
use Rattle.std.specs.Prelude.{List, IsSome, IsNone, Option}
use Rattle.ca_net.specs.declared.wave.Wave.{Wave}
use Rattle.ca_net.specs.Circuit.{Circuit}
use Rattle.ca_cell.specs.declared.raw.RawCell.{RawCell}
use Rattle.ca_cell.specs.Raw.{circuit_of}
use Rattle.ca_cell.specs.declared.defect.Defect.{Defect}
use Rattle.ca_cell.specs.declared.defect.Defect.TheVariants.{OpenDrain, OpenSource, OpenGate, OpenPin}
use Rattle.ca_cell.specs.declared.defect.Defect.TheVariants.{Short}
use Rattle.ca_cell.specs.Defect.{new_node, new_device, bridge, changed_devices, circuit_with}
use Rattle.ca_cell.proofs.ListLemmas.{length-append_some, length-append_none}
use Rattle.ca_cell.proofs.CircuitWithLemmas.{length-changed_from}
use Rattle.ca_settle.specs.Settled.{Settled, unsettled, IsRoomFor}
use Rattle.ca_response.specs.Rooms.{AreRoomsOf, IsTableOfCell}

-- an open adds a node and no device
opened : (net : Circuit) (defect : Defect) (work : Settled) → IsSome (new_node defect) → work ≡ unsettled (length net.nodes + 1) (length net.devices) work.groups
    → IsRoomFor (circuit_with net defect) work
opened net (OpenDrain at) work is room = record {
  nodes = ap (λ (w : Settled). w.nodes) room ∙ sym (length-append_some net.nodes (new_node (OpenDrain at)) _ refl);
  devices = ap (λ (w : Settled). w.devices) room ∙ sym (length-append_none (changed_devices net.devices (length net.nodes) (OpenDrain at)) (new_device (OpenDrain at)) refl ∙ length-changed_from (OpenDrain at) (length net.nodes) 0 net.devices);
}
opened net (OpenSource at) work is room = record {
  nodes = ap (λ (w : Settled). w.nodes) room ∙ sym (length-append_some net.nodes (new_node (OpenSource at)) _ refl);
  devices = ap (λ (w : Settled). w.devices) room ∙ sym (length-append_none (changed_devices net.devices (length net.nodes) (OpenSource at)) (new_device (OpenSource at)) refl ∙ length-changed_from (OpenSource at) (length net.nodes) 0 net.devices);
}
opened net (OpenGate at) work is room = record {
  nodes = ap (λ (w : Settled). w.nodes) room ∙ sym (length-append_some net.nodes (new_node (OpenGate at)) _ refl);
  devices = ap (λ (w : Settled). w.devices) room ∙ sym (length-append_none (changed_devices net.devices (length net.nodes) (OpenGate at)) (new_device (OpenGate at)) refl ∙ length-changed_from (OpenGate at) (length net.nodes) 0 net.devices);
}
opened net (OpenPin at) work is room = record {
  nodes = ap (λ (w : Settled). w.nodes) room ∙ sym (length-append_some net.nodes (new_node (OpenPin at)) _ refl);
  devices = ap (λ (w : Settled). w.devices) room ∙ sym (length-append_none (changed_devices net.devices (length net.nodes) (OpenPin at)) (new_device (OpenPin at)) refl ∙ length-changed_from (OpenPin at) (length net.nodes) 0 net.devices);
}
opened net (Short low high) work is room = absurd (let no : ⊥ = cc in no)

-- a short adds a device and no node
shorted : (net : Circuit) (defect : Defect) (work : Settled) → IsNone (new_node defect) → work ≡ unsettled (length net.nodes) (length net.devices + 1) work.groups
    → IsRoomFor (circuit_with net defect) work
shorted net (OpenDrain at) work is room = absurd (let no : ⊥ = cc in no)
shorted net (OpenSource at) work is room = absurd (let no : ⊥ = cc in no)
shorted net (OpenGate at) work is room = absurd (let no : ⊥ = cc in no)
shorted net (OpenPin at) work is room = absurd (let no : ⊥ = cc in no)
shorted net (Short low high) work is room = record {
  nodes = ap (λ (w : Settled). w.nodes) room ∙ sym (length-append_none net.nodes (new_node (Short low high)) refl);
  devices = ap (λ (w : Settled). w.devices) room
      ∙ sym (length-append_some (changed_devices net.devices (length net.nodes) (Short low high)) (new_device (Short low high)) (bridge low high) refl
      ∙ ap (λ count. count + 1) (length-changed_from (Short low high) (length net.nodes) 0 net.devices));
}

-- the room that is taken is that for all networks of the cell
pub are_rooms : (raw : RawCell) (nodes devices : ℕ) (good open_cell short_cell : Settled) (table : Option (List (List Wave)))
    → nodes ≡ length (circuit_of raw).nodes → devices ≡ length (circuit_of raw).devices → IsRoomFor (circuit_of raw) good
    → open_cell ≡ unsettled (nodes + 1) devices open_cell.groups → short_cell ≡ unsettled nodes (devices + 1) short_cell.groups
    → IsTableOfCell raw table → AreRoomsOf raw (record { good = good; open_cell = open_cell; shorted = short_cell; table = table })
are_rooms raw nodes devices good open_cell short_cell table are_nodes are_devices is_good is_open is_short is_table = record {
  good = is_good;
  open_cell = λ defect is. opened (circuit_of raw) defect open_cell is (is_open ∙ rw (are_nodes, are_devices) refl);
  shorted = λ defect is. shorted (circuit_of raw) defect short_cell is (is_short ∙ rw (are_nodes, are_devices) refl);
  table = is_table;
}

-- the room that is taken is that for the cell
pub is_room : (raw : RawCell) (nodes devices : ℕ) (good : Settled) → nodes ≡ length (circuit_of raw).nodes
    → devices ≡ length (circuit_of raw).devices → good ≡ unsettled nodes devices good.groups → IsRoomFor (circuit_of raw) good
is_room raw nodes devices good are_nodes are_devices is_good = record {
  nodes = ap (λ (w : Settled). w.nodes) is_good ∙ are_nodes;
  devices = ap (λ (w : Settled). w.devices) is_good ∙ are_devices;
}
