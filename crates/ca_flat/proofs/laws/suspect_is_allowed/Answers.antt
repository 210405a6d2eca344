use Rattle.ca_flat.proofs.PlainAbove.{suspect_is_allowed_lem}
use Rattle.ca_flat.proofs.laws.suspect_is_allowed.Goals as goal

pub returns : goal.returns
returns c = suspect_is_allowed_lem
