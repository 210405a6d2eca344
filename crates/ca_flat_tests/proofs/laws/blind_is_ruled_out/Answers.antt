use Rattle.ca_flat_tests.proofs.Blinds.{blind_is_ruled_out_lem}
use Rattle.ca_flat_tests.proofs.laws.blind_is_ruled_out.Goals as goal

pub returns : goal.returns
returns c = blind_is_ruled_out_lem
