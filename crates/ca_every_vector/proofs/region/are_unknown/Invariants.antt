use Rattle.ca_every_vector.specs.code.Region.{AreUnknownOut}
use Rattle.ca_every_vector.proofs.region.are_unknown.Given as goal

abbrev pub invariant-loop-output : goal.invariant-loop-output
invariant-loop-output l = AreUnknownOut l.chip.core l.values l.w l.output
