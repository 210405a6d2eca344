use Rattle.ca_net.proofs.ResponseLaws.{response_rises_lem}
use Rattle.ca_net.proofs.laws.response_rises.Goals as goal

pub returns : goal.returns
returns c = response_rises_lem
