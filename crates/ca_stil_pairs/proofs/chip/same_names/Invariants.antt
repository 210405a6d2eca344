use Rattle.std.proofs.Common.{◌≡◌, length}
use Rattle.ca_stil_pairs.specs.code.Same.{names_eq}
use Rattle.ca_stil_pairs.proofs.chip.same_names.Given as goal

abbrev pub invariant-names : goal.invariant-names
invariant-names l = names_eq l.left l.right ≡ names_eq l.names l.others

abbrev pub decreases-names : goal.decreases-names
decreases-names l = length l.left
