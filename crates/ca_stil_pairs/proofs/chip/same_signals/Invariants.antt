use Rattle.std.proofs.Common.{◌≡◌, length}
use Rattle.ca_stil_pairs.specs.code.Same.{signals_eq}
use Rattle.ca_stil_pairs.proofs.chip.same_signals.Given as goal

abbrev pub invariant-signals : goal.invariant-signals
invariant-signals l = signals_eq l.left l.right ≡ signals_eq l.signals l.others

abbrev pub decreases-signals : goal.decreases-signals
decreases-signals l = length l.left
