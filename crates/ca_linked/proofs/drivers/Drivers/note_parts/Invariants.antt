use Rattle.ca_linked.specs.Linked.{FromPin}
use Rattle.ca_linked.specs.code.Drivers.{AreNoted, IsSeen}
use Rattle.ca_linked.proofs.drivers.Drivers.note_parts.Given as goal

abbrev pub invariant-loop-u : goal.invariant-loop-u
invariant-loop-u l = AreNoted l.draft (IsSeen (FromPin l.u 0)) l.self
