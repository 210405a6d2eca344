use Rattle.std.proofs.Common.{◌≡◌, length}
use Rattle.ca_stil_pairs.specs.code.Same.{scan_ins_eq}
use Rattle.ca_stil_pairs.proofs.chip.same_scan_ins.Given as goal

abbrev pub invariant-names : goal.invariant-names
invariant-names l = scan_ins_eq l.left l.right ≡ scan_ins_eq l.names l.chains

abbrev pub decreases-names : goal.decreases-names
decreases-names l = length l.left
