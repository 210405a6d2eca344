use Rattle.std.proofs.Common.{refl, sym, subst}
use Rattle.ca_credit.specs.Defects.{IsOfOneChip}
use Rattle.ca_chip_diag.proofs.diagnosed.diagnosed_by.Goals as goal

pub diagnose-candidates-requires-clause-one_chip : goal.diagnose-candidates-requires-clause-one_chip
diagnose-candidates-requires-clause-one_chip g c = subst IsOfOneChip (sym c.in_ok-bench.ensures.task) refl
