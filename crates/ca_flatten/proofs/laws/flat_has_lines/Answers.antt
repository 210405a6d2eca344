use Rattle.ca_flatten.proofs.LineLemmas.{flat_lines}
use Rattle.ca_flatten.proofs.laws.flat_has_lines.Goals as goal

pub returns : goal.returns
returns c = λ chip given wired. flat_lines chip wired given
