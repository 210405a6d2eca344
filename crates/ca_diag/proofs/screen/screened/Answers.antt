use Rattle.std.proofs.Common.{ℕ, ap, subst}
use Rattle.ca_flat.specs.Chip.{Chip}
use Rattle.ca_credit.specs.Detection.{IsDecided}
use Rattle.ca_diag.proofs.FailingLemmas.{at_within}
use Rattle.ca_diag.proofs.ScreenLemmas.{decided_within}
use Rattle.ca_diag.proofs.screen.screened.Goals as goal

pub screened_by-requires-clause-within : goal.screened_by-requires-clause-within
screened_by-requires-clause-within g c =
    let task = g.S.Simulator.task c.args.sim.now in
    let some = at_within task.defects c.args.place c.requires.within in
    decided_within task.chip (g.S.Simulator.bits c.args.sim.now) some.0 c.by_lasts-lasts.result _ c.requires.room
    (subst (λ (x : Chip). IsDecided x some.0 (g.S.Simulator.bits c.args.sim.now) c.by_lasts-lasts.result) (ap (λ (of : ℕ → Chip). of c.args.place) c.requires.one_chip)
    (c.by_lasts-lasts.ensures.decided some.0 some.1))

pub returns-clause-screened : goal.returns-clause-screened
returns-clause-screened g c = λ defect at.
    c.screened_by.ensures (g.S.Simulator.task c.args.sim.now).chip (g.S.Simulator.bits c.args.sim.now) defect
    (subst (λ (x : Chip). IsDecided x defect (g.S.Simulator.bits c.args.sim.now) c.by_lasts-lasts.result) (ap (λ (of : ℕ → Chip). of c.args.place) c.requires.one_chip)
    (c.by_lasts-lasts.ensures.decided defect at))
