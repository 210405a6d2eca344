use Rattle.ca_flat.proofs.Completions.{settled_is_kept_lem}
use Rattle.ca_flat.proofs.laws.settled_is_kept.Goals as goal

pub returns : goal.returns
returns c = settled_is_kept_lem
