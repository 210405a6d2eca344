use Rattle.ca_view.specs.Linked.{place_in}
use Rattle.ca_examiner.specs.code.Order.{IsOrderTo}
use Rattle.ca_examiner.proofs.order.order_of.Given as goal

abbrev pub invariant-loop-u : goal.invariant-loop-u
invariant-loop-u l = IsOrderTo l.chip.core (place_in l.chip.ranks) l.u l.order.items
