use Rattle.ca_make_links.proofs.RuleLemmas.{chip_rules_kept}
use Rattle.ca_make_links.proofs.laws.chip_keeps_rules.Goals as goal

pub returns : goal.returns
returns c = chip_rules_kept
