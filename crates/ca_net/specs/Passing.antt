-- Which devices a path of each kind may go through.
use Rattle.ca_net.specs.declared.trit.Trit.{Trit}
use Rattle.ca_net.specs.declared.device.DeviceKind.{DeviceKind}
use Rattle.ca_net.specs.declared.path_kind.PathKind.{PathKind}
use Rattle.ca_net.specs.declared.path_kind.PathKind.TheVariants.{Definite, Potential}
use Rattle.ca_net.specs.Conduction.{OpenAt, ConductsAt}

-- a definite path goes through a device that conducts, a potential one through a device that isn't open
abbrev pub PassesAt : PathKind → DeviceKind → Trit → Type 0
PassesAt Definite device gate = ConductsAt device gate
PassesAt Potential device gate = OpenAt device gate → ⊥
