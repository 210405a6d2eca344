use Rattle.std.proofs.Common.{◌+◌, ◌-◌, ◌≤◌}
use Rattle.ca_net.specs.State.{value_at}
use Rattle.ca_flat.specs.Chip.{count_of}
use Rattle.ca_view.specs.Linked.{place_in}
use Rattle.ca_sweep.specs.Seen.{flipped_outputs}
use Rattle.ca_sweep.specs.code.Changes.{IsSweptTo}
use Rattle.ca_sweep.proofs.run.sweep.Given as goal

abbrev pub invariant-places : goal.invariant-places
invariant-places l = record {
  swept : IsSweptTo l.chip.core (place_in l.chip.ranks) l.u (value_at l.lasts)
      (flipped_outputs l.chip.core l.u (value_at l.lasts) l.fn.flips) l.from l.values;
  within : l.from ≤ count_of l.chip.core + 1;
}

abbrev pub decreases-places : goal.decreases-places
decreases-places l = count_of l.chip.core + 1 - l.from
