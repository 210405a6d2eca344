use Rattle.ca_outputs.proofs.OutputLemmas.{outputs_named, as_many}
use Rattle.ca_outputs.proofs.laws.outputs_are_named.Goals as goal

pub returns : goal.returns
returns c = record { order = outputs_named; count = as_many }
