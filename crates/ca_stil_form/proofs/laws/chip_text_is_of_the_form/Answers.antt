use Rattle.std.proofs.Common.{◌≡◌, ℕ, List, Ok, subst}
use Rattle.ca_stil_form.specs.Reading.{whole}
use Rattle.ca_stil_form.specs.Tokens.{tokens_of}
use Rattle.ca_stil_form.specs.Whole.{stil_form}
use Rattle.ca_stil_form.specs.Value.{stil_value}
use Rattle.ca_stil_form.proofs.StilLemmas.{stil_exact}
use Rattle.ca_stil_form.proofs.StilSpelled.{stil_spelled}
use Rattle.ca_stil_form.proofs.ReadingLemmas.{text_read}
use Rattle.ca_stil_form.proofs.WholeText.{stil_is_of_the_form}
use Rattle.ca_stil_form.proofs.laws.chip_text_is_of_the_form.Goals as goal

pub returns : goal.returns
returns c = record {
  same = stil_is_of_the_form;
  read = λ chip pairs expected fits are allowed.
      subst (λ (text : List ℕ). whole stil_form (tokens_of text) ≡ Ok (stil_value chip pairs expected))
      (stil_is_of_the_form chip pairs expected fits are)
      (text_read stil_form stil_exact stil_spelled (stil_value chip pairs expected) allowed);
}
