use Rattle.ca_flips.proofs.ForcedLemmas.{detected_where_forced_lem}
use Rattle.ca_flips.proofs.laws.detected_where_forced.Goals as goal

pub returns : goal.returns
returns c = detected_where_forced_lem
