use Rattle.std.proofs.Common.{subst}
use Rattle.ca_wiring.specs.declared.joined.Join.{Join}
use Rattle.ca_wiring.specs.code.Forest.{Unites}
use Rattle.ca_wiring.proofs.ForestLemmas.{span_none, span_more}
use Rattle.ca_wiring.proofs.joined.Links.unite_span.Goals as goal

pub loop-step-init : goal.loop-step-init
loop-step-init c = span_none c.args.span c.args.self.now c.requires.back

pub loop-step-preserved : goal.loop-step-preserved
loop-step-preserved c =
    span_more c.args.span c.loop-step.step c.args.self.now c.loop-step.self c.unite.new.self c.loop-step.invariant
    (subst (λ (j : Join). Unites j c.loop-step.self c.unite.new.self) c.join.ensures c.unite.ensures)
