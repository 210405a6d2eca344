use Rattle.ca_view.proofs.NumberLemmas.{AreFirstNumbers}
use Rattle.ca_view.proofs.nets.core_nets.Given as goal

abbrev pub invariant-loop-net : goal.invariant-loop-net
invariant-loop-net l = AreFirstNumbers l.chip l.net l.numbers.items l.count
