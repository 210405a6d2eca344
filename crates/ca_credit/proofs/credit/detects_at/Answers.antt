use Rattle.std.proofs.Common.{rules}
use Rattle.std.proofs.lemmas.List.Elements.{Contains-get_or}
use Rattle.ca_credit.proofs.DetectionLemmas.{detects_by, nothing_detected}
use Rattle.ca_credit.proofs.credit.detects_at.Goals as goal

pub returns-in-Zero : goal.returns-in-Zero
returns-in-Zero g c = λ defect at. detects_by _ _ _ _ _ _ _ _ _ c.requires.stands_in
    (Contains-get_or (g.S.Simulator.task c.args.sim.now).chip.outputs c.args.output 0 c.requires.within) at c.in-Zero.ensures
    c.faulty_end.ensures (λ e. cc) (λ e. cc) (λ t. search rules) (λ e. search rules)

pub returns-in-One : goal.returns-in-One
returns-in-One g c = λ defect at. detects_by _ _ _ _ _ _ _ _ _ c.requires.stands_in
    (Contains-get_or (g.S.Simulator.task c.args.sim.now).chip.outputs c.args.output 0 c.requires.within) at c.in-One.ensures
    c.faulty_end-in-One.ensures (λ e. cc) (λ e. cc) (λ t. search rules) (λ e. search rules)

pub returns-in-X : goal.returns-in-X
returns-in-X g c = λ defect at. (
  λ t. cc,
  λ d. absurd (nothing_detected _ _ _ _ _ c.requires.stands_in
      (Contains-get_or (g.S.Simulator.task c.args.sim.now).chip.outputs c.args.output 0 c.requires.within) c.in-X.ensures d),
)
