use Rattle.ca_cert_text.proofs.SameLemmas.{faulty_line_is_one_lem}
use Rattle.ca_cert_text.proofs.laws.faulty_line_is_one.Goals as goal

pub returns : goal.returns
returns c = faulty_line_is_one_lem
