use Rattle.std.proofs.Common.{subst}
use Rattle.ca_cert.specs.Listed.{IsNextToLook}
use Rattle.ca_examiner.specs.ChipExaminer.{Examining, examined_of}
use Rattle.ca_examiner.proofs.FoundLemmas.{next_is}
use Rattle.ca_examiner.proofs.detections.ChipExaminerTester.next.Goals as goal

pub returns-clause-next : goal.returns-clause-next
returns-clause-next g c =
    subst (λ (e : Examining). IsNextToLook (examined_of e.seen) e.listed c.args.places.now c.args.from c.next.result) c.self.view_is
    (next_is (examined_of c.self.inside.sim.seen) c.self.inside.defects.list c.args.places.now c.args.from c.next.result c.next.ensures.next)
