use Rattle.ca_read_code.proofs.CodeLemmas.{claimed_codes_are_codes_lem}
use Rattle.ca_read_code.proofs.laws.claimed_codes_are_codes.Goals as goal

pub returns : goal.returns
returns c = claimed_codes_are_codes_lem
