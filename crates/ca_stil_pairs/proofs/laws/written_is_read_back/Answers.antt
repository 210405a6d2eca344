use Rattle.ca_stil_pairs.proofs.BackLemmas.{read_back}
use Rattle.ca_stil_pairs.proofs.laws.written_is_read_back.Goals as goal

pub returns : goal.returns
returns c = λ chip pairs expected covered small are allowed.
    read_back chip pairs expected covered are (c.chip_text_is_of_the_form.ensures.read chip pairs expected small are allowed)
