use Rattle.std.proofs.Common.{◌≡◌, ◌++◌, ◌≤◌, reverse, length, take}
use Rattle.ca_stil_pairs.proofs.order.push_chain.Given as goal

abbrev pub invariant-places : goal.invariant-places
invariant-places l = record {
  within : l.left ≤ length l.places;
  pushed : l.order ++ reverse (take l.left l.places) ≡ l.fn.order ++ reverse l.places;
}

abbrev pub decreases-places : goal.decreases-places
decreases-places l = l.left
