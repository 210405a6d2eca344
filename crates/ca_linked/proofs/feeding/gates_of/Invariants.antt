use Rattle.ca_linked.specs.code.Feeding.{HasGates}
use Rattle.ca_linked.proofs.feeding.gates_of.Given as goal

abbrev pub invariant-loop-u : goal.invariant-loop-u
invariant-loop-u l = HasGates l.draft l.u l.gates
