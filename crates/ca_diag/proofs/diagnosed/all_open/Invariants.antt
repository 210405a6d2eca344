use Rattle.ca_diag.specs.code.Pass.{AreAll}
use Rattle.ca_diag.proofs.diagnosed.all_open.Given as goal

abbrev pub invariant-loop-defect : goal.invariant-loop-defect
invariant-loop-defect l = AreAll l.defect l.list.items
