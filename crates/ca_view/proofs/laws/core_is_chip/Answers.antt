use Rattle.ca_view.proofs.CoreIsChip.{core_is}
use Rattle.ca_view.proofs.laws.core_is_chip.Goals as goal

pub returns : goal.returns
returns c = core_is
