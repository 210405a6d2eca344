use Rattle.ca_atpg.proofs.AtpgLemmas.{task_pairs_fit, verdicts_within}
use Rattle.ca_atpg.proofs.generation.texts_of.Goals as goal

pub stil_over-requires-clause-whole : goal.stil_over-requires-clause-whole
stil_over-requires-clause-whole c =
    let made = c.args.made.now in
    task_pairs_fit c.args.view.now.chip c.args.budget made.pairs made.aims made.verdicts c.requires.good

pub report_of-requires-clause-outputs : goal.report_of-requires-clause-outputs
report_of-requires-clause-outputs c =
    let made = c.args.made.now in
    verdicts_within c.args.view.now.chip c.args.budget made.pairs made.aims made.verdicts c.requires.good
