use Rattle.std.proofs.Common.{◌≡◌, ◌∙◌, sym}
use Rattle.ca_stil_form.specs.Value.{stil_value}
use Rattle.ca_stil_pairs.proofs.UniqueLemmas.{one_file}
use Rattle.ca_stil_pairs.proofs.laws.text_is_one_file.Goals as goal

pub returns : goal.returns
returns c = λ chip bytes file other covered is also.
    let both = sym is.reads ∙ also.reads in
    let same : stil_value chip file.pairs file.expected ≡ stil_value chip other.pairs other.expected = cc in
    one_file chip file other.pairs other.expected covered is.are also.are same
