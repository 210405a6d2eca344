use Rattle.ca_stil_form.specs.Whole.{stil_form}
use Rattle.ca_stil_form.proofs.StilLemmas.{stil_exact}
use Rattle.ca_stil_form.proofs.StilSpelled.{stil_spelled}
use Rattle.ca_stil_form.proofs.ReadingLemmas.{text_tokens, text_read}
use Rattle.ca_stil_form.proofs.laws.stil_is_read_back.Goals as goal

pub returns : goal.returns
returns c = record {
  tokens = text_tokens stil_form stil_spelled;
  read = text_read stil_form stil_exact stil_spelled;
}
