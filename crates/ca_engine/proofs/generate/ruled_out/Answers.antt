use Rattle.std.proofs.Common.{subst, sym}
use Rattle.ca_generate.specs.Known.{AreUntestable}
use Rattle.ca_engine.specs.ChipTask.{task_of}
use Rattle.ca_engine.proofs.generate.ruled_out.Goals as goal

pub returns-in-Ok-clause-good : goal.returns-in-Ok-clause-good
returns-in-Ok-clause-good c = λ budget good.
    let task = task_of c.args.view.now.chip budget in
    c.rule_out.ensures (task_of c.args.view.now.chip budget) c.args.made.pairs c.args.made.aims
    (subst (AreUntestable (task_of c.args.view.now.chip budget)) (sym c.deref.ensures.value) (c.in-Ok.ensures budget)) good
