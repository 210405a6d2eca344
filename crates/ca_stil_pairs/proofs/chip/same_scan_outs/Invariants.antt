use Rattle.std.proofs.Common.{◌≡◌, length}
use Rattle.ca_stil_pairs.specs.code.Same.{scan_outs_eq}
use Rattle.ca_stil_pairs.proofs.chip.same_scan_outs.Given as goal

abbrev pub invariant-names : goal.invariant-names
invariant-names l = scan_outs_eq l.left l.right ≡ scan_outs_eq l.names l.chains

abbrev pub decreases-names : goal.decreases-names
decreases-names l = length l.left
