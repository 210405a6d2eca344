use Rattle.std.proofs.Common.{ℕ, rules, ap, subst, IsTrue, true}
use Rattle.ca_flat.specs.Chip.{Chip}
use Rattle.ca_flat.specs.Pair.{IsShown}
use Rattle.ca_diag.proofs.ScreenLemmas.{ruled_out_stays}
use Rattle.ca_diag.proofs.screen.may_matter.Goals as goal

pub returns : goal.returns
returns g c = λ defect at hidden.
    ruled_out_stays (g.S.Simulator.task c.args.sim.now).chip (g.S.Simulator.bits c.args.sim.now) c.args.failing.now.outputs.now defect
    (let held : IsTrue true = search rules in (c.if-not-is_empty.ensures {u = tt}).0 held) (subst (λ (x : Chip). IsShown x defect (g.S.Simulator.bits c.args.sim.now) → ⊥) (ap (λ (of : ℕ → Chip). of c.args.place) c.requires.one_chip)
    (c.may_detect.ensures.undetected defect at hidden))
