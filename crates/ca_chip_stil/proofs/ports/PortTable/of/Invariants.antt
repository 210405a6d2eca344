use Rattle.std.proofs.Common.{◌≤◌, length}
use Rattle.ca_chip_stil.specs.code.Kept.{AreFirstPorts}
use Rattle.ca_chip_stil.proofs.ports.PortTable.of.Given as goal

abbrev pub invariant-ports : goal.invariant-ports
invariant-ports l = record {
  within : l.left ≤ length l.chip.ports;
  are : AreFirstPorts l.chip l.input l.left l.table;
}

abbrev pub decreases-ports : goal.decreases-ports
decreases-ports l = l.left
