use Rattle.ca_linked.specs.Linked.{FromPort}
use Rattle.ca_linked.specs.code.Drivers.{AreNoted, IsSeen}
use Rattle.ca_linked.proofs.drivers.Drivers.note_ports.Given as goal

abbrev pub invariant-loop-p : goal.invariant-loop-p
invariant-loop-p l = AreNoted l.draft (IsSeen (FromPort l.p)) l.self
