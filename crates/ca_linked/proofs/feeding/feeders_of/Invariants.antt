use Rattle.ca_linked.specs.code.Feeding.{HaveFeeders}
use Rattle.ca_linked.proofs.feeding.feeders_of.Given as goal

abbrev pub invariant-loop-u : goal.invariant-loop-u
invariant-loop-u l = HaveFeeders l.draft l.u l.feeders
