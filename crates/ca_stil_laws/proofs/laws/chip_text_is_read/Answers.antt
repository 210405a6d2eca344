use Rattle.ca_stil_laws.proofs.ValueLemmas.{text_read}
use Rattle.ca_stil_laws.proofs.laws.chip_text_is_read.Goals as goal

pub returns : goal.returns
returns c =
    text_read c.sites_are_ends.ensures.set c.sites_are_ends.ensures.seen c.chip_values_are_allowed.ensures
    c.chip_text_is_of_the_form.ensures.read
