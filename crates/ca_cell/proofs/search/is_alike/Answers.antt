use Rattle.ca_cell.proofs.CaseLemmas.{alike_from_lower, lower_from_alike}
use Rattle.ca_cell.proofs.search.is_alike.Goals as goal

pub returns : goal.returns
returns c = (
  λ alike. alike_from_lower c.args.text.now c.args.other.now (c.eq_ignore_ascii_case.ensures.test.0 alike),
  λ same. c.eq_ignore_ascii_case.ensures.test.1 (lower_from_alike c.args.text.now c.args.other.now same),
)
