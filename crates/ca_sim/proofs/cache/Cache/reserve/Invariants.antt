use Rattle.std.proofs.Common.{◌≡◌, length}
use Rattle.std.specs.List.{All}
use Rattle.ca_sim.specs.code.Cache.{IsEmpty}
use Rattle.ca_sim.proofs.cache.Cache.reserve.Given as goal

abbrev pub invariant-loop-slot : goal.invariant-loop-slot
invariant-loop-slot l = record {
  count : length l.cache.slots.items ≡ l._slot;
  empty : All IsEmpty l.cache.slots.items;
}
