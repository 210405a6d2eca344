use Rattle.ca_syntax.proofs.ExampleLemmas.{example_read}
use Rattle.ca_syntax.proofs.laws.example_is_read.Goals as goal

pub returns : goal.returns
returns c = example_read
