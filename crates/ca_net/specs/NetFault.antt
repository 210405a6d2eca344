-- Why no network was made.
use Rattle.std.specs.Prelude.{List, length}
use Rattle.ca_base.specs.First.{IsFirst}
use Rattle.ca_net.specs.declared.node.NodeKind.{NodeKind}
use Rattle.ca_net.specs.declared.device.Device.{Device}
use Rattle.ca_net.specs.declared.flat_net.NetFault.{NetFault}
use Rattle.ca_net.specs.declared.flat_net.NetFault.TheVariants.{BadNode, NoMemory}
use Rattle.ca_net.specs.Circuit.{NamesPast}

-- a bad node is named by the first device that names one; memory never runs out, since none is taken
abbrev pub IsCause : List NodeKind → List Device → NetFault → Type 0
IsCause nodes devices (BadNode device) = IsFirst (NamesPast (length nodes)) devices device.0
IsCause nodes devices NoMemory = ⊥
