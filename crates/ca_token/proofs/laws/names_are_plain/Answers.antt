use Rattle.ca_token.proofs.NamedLemmas.{names_plain}
use Rattle.ca_token.proofs.laws.names_are_plain.Goals as goal

pub returns : goal.returns
returns c = names_plain
