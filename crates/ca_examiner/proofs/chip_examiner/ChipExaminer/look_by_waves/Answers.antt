use Rattle.std.proofs.Common.{subst}
use Rattle.ca_flat.specs.Rows.{ListsExposingRows}
use Rattle.ca_examiner.proofs.chip_examiner.ChipExaminer.look_by_waves.Goals as goal

pub may_show-requires-clause-rows : goal.may_show-requires-clause-rows
may_show-requires-clause-rows g c =
    subst (λ x. ListsExposingRows x c.args.defect c.rows.result.now) c.self.invariant.2.rows_are c.rows.ensures
