use Rattle.ca_net.proofs.LastLimit.{last_limit_is_end_lem}
use Rattle.ca_net.proofs.laws.last_limit_is_end.Goals as goal

pub returns : goal.returns
returns c = last_limit_is_end_lem
