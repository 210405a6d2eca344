use Rattle.std.proofs.Common.{subst, sym}
use Rattle.std.specs.Prelude.{IfOk, IfErr}
use Rattle.ca_credit.specs.Defects.{Task}
use Rattle.ca_credit.specs.Good.{IsGood}
use Rattle.ca_generate.specs.GenerateFault.{IsCause}
use Rattle.ca_generate.specs.Known.{AreUntestable}
use Rattle.ca_engine.proofs.generate.generate_by.Goals as goal

pub returns-clause-good : goal.returns-clause-good
returns-clause-good g c =
    subst (λ (task : Task). IfOk c.generate_knowing-made.result (λ made. IsGood task made.pairs made.aims made.verdicts))
    c.in_ok-bench.ensures.task c.generate_knowing-made.ensures.good

pub returns-clause-cause : goal.returns-clause-cause
returns-clause-cause g c =
    subst (λ (task : Task). IfErr c.generate_knowing-made.result (IsCause task)) c.in_ok-bench.ensures.task c.generate_knowing-made.ensures.cause

pub generate_knowing-made-requires-clause-untestable : goal.generate_knowing-made-requires-clause-untestable
generate_knowing-made-requires-clause-untestable g c = subst (λ (task : Task). AreUntestable task c.args.untestable.now) (sym c.in_ok-bench.ensures.task) c.requires.untestable
