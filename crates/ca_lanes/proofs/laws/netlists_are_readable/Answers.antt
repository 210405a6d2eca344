use Rattle.ca_lanes.proofs.ReadableLemmas.{netlists_are_readable_lem}
use Rattle.ca_lanes.proofs.laws.netlists_are_readable.Goals as goal

pub returns : goal.returns
returns c = netlists_are_readable_lem
