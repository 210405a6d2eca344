use Rattle.ca_order.proofs.AllowedLemmas.{read_events_are_allowed_lem}
use Rattle.ca_order.proofs.laws.read_events_are_allowed.Goals as goal

pub returns : goal.returns
returns c = read_events_are_allowed_lem
