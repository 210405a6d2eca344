use Rattle.ca_code.proofs.FilledLemmas.{filled_is_shown_lem}
use Rattle.ca_code.proofs.laws.filled_is_shown.Goals as goal

pub returns : goal.returns
returns c = filled_is_shown_lem
