use Rattle.ca_view.specs.Core.{core_of}
use Rattle.ca_view.specs.NetLists.{ArePinNets}
use Rattle.ca_view.proofs.pins.gate_pins.Given as goal

abbrev pub invariant-loop-pin : goal.invariant-loop-pin
invariant-loop-pin l = ArePinNets (core_of l.chip) l.u.0 l.before l.pin l.nets.items
