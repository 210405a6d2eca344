use Rattle.std.proofs.Common.{◌≡◌, ◌-◌}
use Rattle.ca_linked.specs.code.Walk.{back_from}
use Rattle.ca_linked.proofs.order.Walk.back_to.Given as goal

abbrev pub invariant-loop-k : goal.invariant-loop-k
invariant-loop-k l = l.back.items ≡ back_from l.self.trail (l.count - l.k) l.k
