use Rattle.ca_stil_form.proofs.ValueLemmas.{values_allowed}
use Rattle.ca_stil_form.proofs.laws.named_values_are_allowed.Goals as goal

pub returns : goal.returns
returns c = values_allowed
