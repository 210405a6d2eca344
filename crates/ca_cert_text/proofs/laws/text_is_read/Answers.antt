use Rattle.ca_cert_text.proofs.SameLemmas.{text_is_read_lem}
use Rattle.ca_cert_text.proofs.laws.text_is_read.Goals as goal

pub returns : goal.returns
returns c = text_is_read_lem
