-- Where a bit of a vector is set, and where an observed value is looked at: at a bit of a port, or in a scan
-- instance.
use Rattle.std.specs.Prelude.{ℕ, Bool, true, false, not, ◌&&◌, List, [], ◌∷◌, ◌++◌, map, Option, Some, None}
use Rattle.std.specs.Prelude.{slice_get, if◌then◌else◌}
use Rattle.std.specs.List.{flat_map}
use Rattle.ca_linked.specs.declared.parts.Body.{Body}
use Rattle.ca_linked.specs.declared.parts.Body.TheVariants.{Gate, Scan}
use Rattle.ca_linked.specs.declared.parts.Part.{Part}
use Rattle.ca_linked.specs.declared.parts.PortBit.{PortBit}
use Rattle.ca_linked.specs.Linked.{LinkedChip, is_scan_path}
use Rattle.ca_linked.specs.Instances.{scans_of}

-- a bit of a port, or the scan instance of this number
pub data Site : Type 0 where
  AtPort : PortBit → Site
  InScan : ℕ → Site

-- the port bit is of a port of this direction
abbrev pub is_directed : Bool → PortBit → Bool
is_directed input port = if port.is_input then input else not input

-- so it is, and off the scan path
abbrev pub is_data_port : LinkedChip → Bool → PortBit → Bool
is_data_port chip input port = is_directed input port && not (is_scan_path chip port.net)

-- the port bit, if it is such a one
abbrev pub if_data_port : LinkedChip → Bool → PortBit → List PortBit
if_data_port chip input port = if is_data_port chip input port then port ∷ [] else []

-- the bits of the ports of this direction that are off the scan path, in header order
abbrev pub data_ports : LinkedChip → Bool → List PortBit
data_ports chip input = flat_map (if_data_port chip input) chip.ports

-- the bits of ports of this direction, and then the scan instances in netlist order
abbrev pub sites_of : LinkedChip → Bool → List Site
sites_of chip input = map AtPort (data_ports chip input) ++ map InScan (scans_of chip)

-- where a vector is set: its bit k at the site k of these
abbrev pub set_sites : LinkedChip → List Site
set_sites chip = sites_of chip true

-- where values are observed: the value k at the site k of these
abbrev pub seen_sites : LinkedChip → List Site
seen_sites chip = sites_of chip false

-- the net of a scan instance's output or, where values are observed, of its data pin
abbrev pub body_net : Bool → Body → ℕ
body_net input (Gate cell inputs outputs) = 0
body_net true (Scan nets) = nets.q
body_net false (Scan nets) = nets.d

abbrev pub part_net : Bool → Option Part → ℕ
part_net input None = 0
part_net input (Some part) = body_net input part.body

-- the net of a site
abbrev pub site_net : LinkedChip → Bool → Site → ℕ
site_net chip input (AtPort port) = port.net
site_net chip input (InScan u) = part_net input (slice_get chip.parts u)
