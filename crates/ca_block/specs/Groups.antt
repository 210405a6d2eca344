-- Channel groups as labels: storage nodes that a device joins have one label.
use Rattle.std.specs.Prelude.{ℕ, ◌≡◌, ◌<◌, ◌⊎◌, List, length, Some, slice_get, slice_index}
use Rattle.ca_net.specs.declared.device.Device.{Device}
use Rattle.ca_net.specs.Circuit.{Circuit, IsStorage}
use Rattle.ca_block.specs.declared.groups.Groups.{Groups}

-- the node is an end of the device
abbrev pub IsEnd : Device → ℕ → Type 0
IsEnd d n = (d.a.0 ≡ n) ⊎ (d.b.0 ≡ n)

-- each end of the device that is a storage node has this label
abbrev pub HasHome : Circuit → List ℕ → Device → ℕ → Type 0
HasHome net labels d label = (n : ℕ) → IsEnd d n → IsStorage net n → slice_index labels n ≡ label

-- the first labels are among the first numbers
abbrev pub AreWithin : ℕ → ℕ → List ℕ → Type 0
AreWithin count nodes labels = (k : ℕ) → k < count → slice_index labels k < nodes

-- there is room for the groups of networks with this many nodes and devices
pub record HasRoom (nodes devices : ℕ) (groups : Groups) : Type 0 where
  pub device_count : length groups.devices.items ≡ devices
  pub label_count : length groups.labels.items ≡ nodes
  pub home_count : length groups.homes.items ≡ devices

-- the devices are the network's, and the storage ends of each of them have one label, which is its home
pub record HoldsGroups (net : Circuit) (groups : Groups) : Type 0 where
  pub room : HasRoom (length net.nodes) (length net.devices) groups
  pub devices : groups.devices.items ≡ net.devices
  pub labels_within : AreWithin (length net.nodes) (length net.nodes) groups.labels.items
  pub homes_within : AreWithin (length net.devices) (length net.nodes) groups.homes.items
  pub homes : (i : ℕ) (d : Device) → slice_get net.devices i ≡ Some d
      → HasHome net groups.labels.items d (slice_index groups.homes.items i)
