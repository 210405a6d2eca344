use Rattle.std.proofs.Common.{◌≡◌, take}
use Rattle.ca_judge.proofs.exchange.take_over.Given as goal

abbrev pub invariant-loop-number : goal.invariant-loop-number
invariant-loop-number l = l.needed.items ≡ take l.number-index l.others.items
