use Rattle.ca_net.proofs.FreePath.{some_path_is_unblocked_lem}
use Rattle.ca_net.proofs.laws.some_path_is_unblocked.Goals as goal

pub returns : goal.returns
returns c = some_path_is_unblocked_lem
