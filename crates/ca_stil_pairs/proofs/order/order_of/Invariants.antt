use Rattle.std.proofs.Common.{◌≡◌, take}
use Rattle.ca_stil_pairs.specs.Chip.{order_of}
use Rattle.ca_stil_pairs.proofs.order.order_of.Given as goal

abbrev pub invariant-loop-chain : goal.invariant-loop-chain
invariant-loop-chain l = l.order ≡ order_of (take l.chain-index l.chains)
