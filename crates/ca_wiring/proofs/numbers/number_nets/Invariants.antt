use Rattle.ca_wiring.specs.Numbers.{AreNumbered}
use Rattle.ca_wiring.proofs.numbers.number_nets.Given as goal

abbrev pub invariant-loop-w : goal.invariant-loop-w
invariant-loop-w l = AreNumbered (record { earliest = l.earliest; used = l.used }) l.w l.table
