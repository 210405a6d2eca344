use Rattle.std.proofs.Common.{◌≡◌, [], replicate}
use Rattle.ca_merge.proofs.cell.bare_names.Given as goal

abbrev pub invariant-loop-name : goal.invariant-loop-name
invariant-loop-name l = l.names ≡ replicate l._name []
