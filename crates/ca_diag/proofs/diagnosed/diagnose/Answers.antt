use Rattle.std.proofs.Common.{ℕ, List, subst, sym}
use Rattle.ca_diag.specs.declared.candidate.Candidate.{Candidate}
use Rattle.ca_diag.specs.Candidates.{AreCandidates}
use Rattle.ca_diag.specs.code.Pass.{AreAll}
use Rattle.ca_diag.proofs.OpenLemmas.{none_passed, all_passed}
use Rattle.ca_diag.proofs.diagnosed.diagnose.Goals as goal

pub pass_all-requires-clause-before : goal.pass_all-requires-clause-before
pass_all-requires-clause-before g c =
    none_passed (g.S.Simulator.task c.args.sim.now) c.args.pairs.now c.args.log.now c.in_ok-list.list.items
    (subst (λ (count : ℕ). AreAll count c.in_ok-list.list.items) c.defect_count.ensures c.in_ok-list.ensures)

pub returns-clause-candidates : goal.returns-clause-candidates
returns-clause-candidates g c =
    let task = g.S.Simulator.task c.args.sim.now in
    subst (λ (list : List Candidate). AreCandidates task c.args.pairs.now c.args.log.now list) (sym c.of-2.ensures)
    (all_passed task c.args.pairs.now c.args.log.now c.pass_all.new.list.items c.pass_all.ensures.passed)
