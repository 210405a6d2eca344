use Rattle.std.proofs.Common.{◌≡◌}
use Rattle.ca_lex.specs.FirstFault.{steps_from}
use Rattle.ca_lex.specs.Physical.{lines_of}
use Rattle.ca_order.specs.Order.{line_step, numbered, order_of}
use Rattle.ca_order.proofs.order.read_order.Given as goal

abbrev pub invariant-loop-line : goal.invariant-loop-line
invariant-loop-line l = order_of l.places l.bytes ≡ steps_from (line_step l.places) l.events (numbered l.line (lines_of l.rest))
