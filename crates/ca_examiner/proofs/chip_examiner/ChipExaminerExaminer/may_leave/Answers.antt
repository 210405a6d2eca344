use Rattle.std.proofs.Common.{◌∙◌, subst}
use Rattle.std.specs.Prelude.{IsTrue, ◌↔◌}
use Rattle.ca_flat.specs.Rows.{ListsExposingRows}
use Rattle.ca_read_code.specs.Examined.{MayLeaveHere}
use Rattle.ca_examiner.specs.ChipExaminer.{Examining, examined_of}
use Rattle.ca_examiner.proofs.LeaveLemmas.{leaves_here}
use Rattle.ca_examiner.proofs.chip_examiner.ChipExaminerExaminer.may_leave.Goals as goal

pub may_leave-requires-clause-rows : goal.may_leave-requires-clause-rows
may_leave-requires-clause-rows g c =
    subst (λ x. ListsExposingRows x c.in-Some.defect c.rows.result.now) c.self.invariant.2.rows_are c.rows.ensures

pub returns-clause-leaf : goal.returns-clause-leaf
returns-clause-leaf g c = subst (λ (s : Examining). IsTrue c.may_leave.result ↔ MayLeaveHere (examined_of s.seen)) c.self.view_is
    (leaves_here c.self.inside.sim.seen c.in-Some.defect c.may_leave.result (c.self.invariant.2.aim_is ∙ c.in-Some.is) c.may_leave.ensures.leaf)
