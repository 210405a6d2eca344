use Rattle.ca_flat.specs.Pair.{IsShown}
use Rattle.ca_sim.specs.Simulator.{KeepsSeen}
use Rattle.ca_confined.specs.Confined.{KeepsAim}
use Rattle.ca_judge.proofs.shorten.unset_needless.Given as goal

abbrev pub invariant-loop-number : goal.invariant-loop-number
invariant-loop-number l = record {
  ready : (goal.iterator-loop-number).can_next l.number-iterator;
  ends : (goal.iterator-loop-number).is_finite l.number-iterator;
  shown : IsShown l.aimed.view.now.core l.aimed.defect l.confined.pair;
  aim : KeepsAim l.fn.confined l.confined;
  kept : KeepsSeen l.fn.sim l.sim;
}
