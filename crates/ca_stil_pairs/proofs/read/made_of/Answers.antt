use Rattle.ca_stil_pairs.proofs.OrderLemmas.{sites_in}
use Rattle.ca_stil_pairs.proofs.read.made_of.Goals as goal

pub file_of-requires-clause-within : goal.file_of-requires-clause-within
file_of-requires-clause-within c =
    sites_in c.args.chip.now c.args.order.now c.in_ok-sites.sites.items c.deref.result.now c.requires.covered c.requires.order
    c.in_ok-sites.ensures c.deref.ensures.value
