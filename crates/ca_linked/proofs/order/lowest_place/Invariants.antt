use Rattle.std.proofs.Common.{◌<◌, ◌≤◌, ℕ, length, slice_index}
use Rattle.ca_linked.proofs.order.lowest_place.Given as goal

abbrev pub invariant-loop-k : goal.invariant-loop-k
invariant-loop-k l = record {
  within : l.lowest < length l.numbers;
  lowest : (j : ℕ) → j < l.k → slice_index l.numbers l.lowest ≤ slice_index l.numbers j;
}
