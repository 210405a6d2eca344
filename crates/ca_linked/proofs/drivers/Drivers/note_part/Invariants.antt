use Rattle.ca_linked.specs.Linked.{FromPin}
use Rattle.ca_linked.specs.code.Drivers.{AreNoted, IsSeen}
use Rattle.ca_linked.proofs.drivers.Drivers.note_part.Given as goal

abbrev pub invariant-loop-pin : goal.invariant-loop-pin
invariant-loop-pin l = AreNoted l.draft (IsSeen (FromPin l.u l.pin)) l.self
