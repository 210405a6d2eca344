-- What the code keeps, as the definitions see it.
use Rattle.ca_cell.specs.Library.{Named, raw_of}
use Rattle.ca_spice.specs.declared.subcircuit.Subcircuit.{Subcircuit}

-- an entry of a library, as the subcircuit that was read
abbrev pub subcircuit_seen : Named → Subcircuit
subcircuit_seen named = record { name = named.name; raw = raw_of named.entry }
