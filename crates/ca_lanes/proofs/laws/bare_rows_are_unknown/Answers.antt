use Rattle.ca_lanes.proofs.BareLemmas.{bare_rows_are_unknown_lem}
use Rattle.ca_lanes.proofs.laws.bare_rows_are_unknown.Goals as goal

pub returns : goal.returns
returns c = bare_rows_are_unknown_lem
