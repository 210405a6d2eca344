use Rattle.std.proofs.Common.{ℕ}
use Rattle.ca_view.specs.Linked.{place_in}
use Rattle.ca_sweep.specs.Seen.{flipped_outputs}
use Rattle.ca_sweep.specs.code.Changes.{IsWrittenTo}
use Rattle.ca_sweep.specs.code.Lanes.{AreLanesRoomy, flips_in, goods_in, values_in}
use Rattle.ca_sweep.proofs.lane_values.LaneValues.flip.Given as goal

abbrev pub invariant-loop-output : goal.invariant-loop-output
invariant-loop-output l = record {
  written : (lane : ℕ) → IsWrittenTo l.chip.core (place_in l.chip.ranks) l.u l.output
      (flipped_outputs l.chip.core l.u (goods_in l.fn.self.ones.items lane) (flips_in l.flips lane)) (values_in l.fn.self lane) (values_in l.self lane);
  room : AreLanesRoomy l.chip.core l.self;
}
