use Rattle.ca_linked.proofs.NoLoopLemmas.{no_feeding_loop}
use Rattle.ca_linked.proofs.laws.order_has_no_loop.Goals as goal

pub returns : goal.returns
returns c = no_feeding_loop
