use Rattle.ca_cell.proofs.RuleLemmas.{few_nodes}
use Rattle.ca_cell.proofs.check.first_broken.Goals as goal

pub driven_channel-requires-clause-few : goal.driven_channel-requires-clause-few
driven_channel-requires-clause-few c = few_nodes c.args.raw.now c.in-None.ensures.kept
