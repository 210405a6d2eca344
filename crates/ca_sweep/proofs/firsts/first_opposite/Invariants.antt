use Rattle.std.proofs.Common.{◌+◌, ◌-◌, ◌≤◌}
use Rattle.ca_net.specs.State.{value_at}
use Rattle.ca_flat.specs.Chip.{count_of}
use Rattle.ca_view.specs.Linked.{place_in}
use Rattle.ca_sweep.proofs.FirstLemmas.{IsLeastTo}
use Rattle.ca_sweep.proofs.firsts.first_opposite.Given as goal

abbrev pub invariant-loop-place : goal.invariant-loop-place
invariant-loop-place l = record {
  least : IsLeastTo l.chip.core (place_in l.chip.ranks) l.u (value_at l.lasts) (value_at l.values.values) l.values.due l.firsts l.from l.first;
  within : l.from ≤ count_of l.chip.core + 1;
  few : l.first ≤ l.count;
}

abbrev pub decreases-loop-place : goal.decreases-loop-place
decreases-loop-place l = count_of l.chip.core + 1 - l.from
