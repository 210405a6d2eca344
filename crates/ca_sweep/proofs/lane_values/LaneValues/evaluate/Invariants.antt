use Rattle.std.proofs.Common.{ℕ, ◌<◌}
use Rattle.std.specs.Prelude.{slice_index}
use Rattle.ca_planes.specs.Plane.{lane_at}
use Rattle.ca_flat.specs.Chip.{inputs_at}
use Rattle.ca_view.specs.Linked.{place_in}
use Rattle.ca_view.specs.NetLists.{input_nets}
use Rattle.ca_static.specs.LastTable.{last_at}
use Rattle.ca_sweep.specs.code.Changes.{IsWrittenTo}
use Rattle.ca_sweep.specs.code.Lanes.{AreLanesRoomy, number_to, values_in}
use Rattle.ca_sweep.proofs.lane_values.LaneValues.evaluate.Given as goal

abbrev pub invariant-loop-output : goal.invariant-loop-output
invariant-loop-output l = record {
  written : (lane : ℕ) → lane < 64 → IsWrittenTo l.chip.core (place_in l.chip.ranks) l.w l.output
      (last_at l.table (number_to (λ pin. lane_at l.fn.self.ones.items (slice_index (input_nets l.chip.lists l.w) pin) lane) (inputs_at l.chip.core l.w)))
      (values_in l.fn.self lane) (values_in l.self lane);
  room : AreLanesRoomy l.chip.core l.self;
}
