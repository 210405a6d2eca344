use Rattle.ca_draft.specs.code.OnWires.{AreOnWires}
use Rattle.ca_draft.proofs.instances.instances_of.Given as goal

abbrev pub invariant-loop-u : goal.invariant-loop-u
invariant-loop-u l = AreOnWires l.library l.scan l.bits l.instances l.u l.own l.parts.items
