use Rattle.std.proofs.Common.{◌∙◌, subst}
use Rattle.std.specs.Prelude.{IsTrue, ◌↔◌}
use Rattle.ca_read_code.specs.Examined.{MayGoOn}
use Rattle.ca_examiner.specs.ChipExaminer.{Examining, examined_of}
use Rattle.ca_examiner.proofs.LeaveLemmas.{goes_on_here}
use Rattle.ca_examiner.proofs.chip_examiner.ChipExaminerExaminer.may_go_on.Goals as goal

pub returns : goal.returns
returns g c = subst (λ (s : Examining). IsTrue c.may_go_on.result ↔ MayGoOn (examined_of s.seen)) c.self.view_is
    (goes_on_here c.self.inside.sim.seen c.in-Some.defect c.may_go_on.result (c.self.invariant.2.aim_is ∙ c.in-Some.is) c.may_go_on.ensures)
