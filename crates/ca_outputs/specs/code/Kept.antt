-- The names that single port bits and instances add. Only the proofs of the code cite this.
use Rattle.std.specs.Prelude.{ℕ, List}
use Rattle.ca_linked.specs.declared.parts.Part.{Part}
use Rattle.ca_linked.specs.declared.parts.PortBit.{PortBit}
use Rattle.ca_linked.specs.Linked.{LinkedChip}
use Rattle.ca_outputs.specs.Outputs.{port_outputs, part_outputs, names_of}

-- the name of a port bit, if it is an observed output
abbrev pub port_names : LinkedChip → PortBit → List (List ℕ)
port_names chip port = names_of (port_outputs chip port)

-- the name of an instance's data pin, if it is a scan instance
abbrev pub part_names : Part → List (List ℕ)
part_names part = names_of (part_outputs part)
