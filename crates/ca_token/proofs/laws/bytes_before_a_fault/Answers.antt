use Rattle.ca_token.proofs.LawLemmas.{bytes_before}
use Rattle.ca_token.proofs.laws.bytes_before_a_fault.Goals as goal

pub returns : goal.returns
returns c = bytes_before
