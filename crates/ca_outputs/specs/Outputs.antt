-- The observed outputs of a linked chip, with their names.
use Rattle.std.specs.Prelude.{ℕ, Bool, not, ◌&&◌, List, [], ◌∷◌, ◌++◌, map, if◌then◌else◌}
use Rattle.std.specs.List.{flat_map}
use Rattle.ca_linked.specs.declared.parts.Body.{Body}
use Rattle.ca_linked.specs.declared.parts.Body.TheVariants.{Gate, Scan}
use Rattle.ca_linked.specs.declared.parts.Part.{Part}
use Rattle.ca_linked.specs.declared.parts.PortBit.{PortBit}
use Rattle.ca_linked.specs.Linked.{LinkedChip, is_scan_path}

-- an observed output: its name and its net
pub record Output : Type 0 where
  pub name : List ℕ
  pub net : ℕ

-- the port bit is of an output port, and off the scan path
abbrev pub is_observed : LinkedChip → PortBit → Bool
is_observed chip port = not port.is_input && not (is_scan_path chip port.net)

-- the output that a port bit is, if it is one
abbrev pub port_outputs : LinkedChip → PortBit → List Output
port_outputs chip port =
    if is_observed chip port then record { name = port.name; net = port.net } ∷ [] else []

-- the name of an instance's data pin: the instance's name, a slash, and the pin's name
abbrev pub pin_name : Part → List ℕ
pin_name part = part.name ++ 47 ∷ part.data

-- the output of this name at the data pin of a scan instance; a library instance has none
abbrev pub pin_outputs : List ℕ → Body → List Output
pin_outputs name (Gate cell inputs outputs) = []
pin_outputs name (Scan nets) = record { name = name; net = nets.d } ∷ []

-- the output that an instance has at its data pin, if it has one
abbrev pub part_outputs : Part → List Output
part_outputs part = pin_outputs (pin_name part) part.body

-- the bits of output ports that are off the scan path, in header order
abbrev pub observed_ports : LinkedChip → List Output
observed_ports chip = flat_map (port_outputs chip) chip.ports

-- the data pins of scan instances, in netlist order
abbrev pub observed_pins : LinkedChip → List Output
observed_pins chip = flat_map part_outputs chip.parts

-- the observed outputs, in their order
abbrev pub named_outputs : LinkedChip → List Output
named_outputs chip = observed_ports chip ++ observed_pins chip

-- the names of outputs
abbrev pub names_of : List Output → List (List ℕ)
names_of outputs = map (λ output. output.name) outputs

-- the names of the observed outputs, in their order
abbrev pub output_names : LinkedChip → List (List ℕ)
output_names chip = names_of (named_outputs chip)
