use Rattle.ca_flips.proofs.CellLemmas.{ends_by_last_is_steady_lem}
use Rattle.ca_flips.proofs.laws.ends_by_last_is_steady.Goals as goal

pub returns : goal.returns
returns c = ends_by_last_is_steady_lem
