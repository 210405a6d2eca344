use Rattle.std.proofs.Common.{slice_index, subst, sym}
use Rattle.ca_flat.specs.Chip.{Chip}
use Rattle.ca_credit.specs.Detection.{IsNetEnd}
use Rattle.ca_diag.specs.code.Judged.{IsPrediction}
use Rattle.ca_diag.proofs.JudgeLemmas.{predicted_by}
use Rattle.ca_diag.proofs.predict.predicted.Goals as goal

pub returns : goal.returns
returns g c = λ defect at.
    let chip = (g.S.Simulator.task c.args.sim.now).chip in
    let bits = g.S.Simulator.bits c.args.sim.now in
    subst (IsPrediction chip defect bits c.args.output) (sym c.prediction_of.ensures)
    (predicted_by chip defect (g.S.Simulator.aimed c.args.sim.now) bits c.args.output c.good_end.result c.faulty_end.result at
    c.good_end.ensures (subst (λ (x : Chip). IsNetEnd x (g.S.Simulator.aimed c.args.sim.now) bits (slice_index chip.outputs c.args.output)
    c.faulty_end.result) c.requires.own c.faulty_end.ensures))
