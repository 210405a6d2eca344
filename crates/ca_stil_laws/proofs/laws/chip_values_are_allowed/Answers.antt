use Rattle.ca_stil_laws.proofs.ValueLemmas.{values_allowed}
use Rattle.ca_stil_laws.proofs.laws.chip_values_are_allowed.Goals as goal

pub returns : goal.returns
returns c =
    values_allowed c.sites_are_ends.ensures.set c.sites_are_ends.ensures.seen
    c.named_values_are_allowed.ensures
