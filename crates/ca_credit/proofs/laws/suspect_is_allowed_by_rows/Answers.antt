use Rattle.ca_credit.proofs.LawLemmas.{suspect_is_allowed_by_rows_lem}
use Rattle.ca_credit.proofs.laws.suspect_is_allowed_by_rows.Goals as goal

pub returns : goal.returns
returns c = suspect_is_allowed_by_rows_lem
