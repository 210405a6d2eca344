use Rattle.std.proofs.Common.{None, subst}
use Rattle.ca_flat.specs.RuleOut.{RowsRuleOut}
use Rattle.ca_flat.specs.Waves.{FlatWaves}
use Rattle.ca_sim.specs.Simulator.{Simulator}
use Rattle.ca_engine.proofs.flip_bench.FlipBench.may_show.Goals as goal

pub returns-clause-allowed : goal.returns-clause-allowed
returns-clause-allowed g c = λ is.
    subst (λ (sim : Simulator). (good : FlatWaves sim.seen.chip None sim.seen.pair) → RowsRuleOut sim.seen.chip c.args.defect sim.seen.pair good → ⊥) c.self.view_is
    (c.may_show.ensures.allowed is)
