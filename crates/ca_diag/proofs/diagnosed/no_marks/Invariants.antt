use Rattle.std.proofs.Common.{◌≡◌, length}
use Rattle.ca_diag.proofs.diagnosed.no_marks.Given as goal

abbrev pub invariant-loop-output : goal.invariant-loop-output
invariant-loop-output l = length l.marks.items ≡ l._output
