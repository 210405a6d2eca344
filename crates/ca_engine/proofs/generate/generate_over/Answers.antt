use Rattle.std.proofs.Common.{subst, sym}
use Rattle.ca_generate.specs.Known.{AreUntestable}
use Rattle.ca_engine.specs.ChipTask.{task_of}
use Rattle.ca_engine.proofs.generate.generate_over.Goals as goal

pub generate_by-made-requires-clause-untestable :
    goal.generate_by-made-requires-clause-untestable
generate_by-made-requires-clause-untestable g c =
    subst (AreUntestable (task_of c.args.view.now.chip c.args.budget)) (sym c.deref.ensures.value) (c.in_ok-untestable.ensures c.args.budget)

pub returns-in-Ok-clause-good : goal.returns-in-Ok-clause-good
returns-in-Ok-clause-good g c = c.ruled_out.ensures.good c.args.budget c.in-Ok.ensures.good
