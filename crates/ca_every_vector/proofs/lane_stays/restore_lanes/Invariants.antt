use Rattle.std.proofs.Common.{length}
use Rattle.ca_planes.specs.Trits.{HasNodes, state_in}
use Rattle.ca_every_vector.specs.code.Lanes.{InEach}
use Rattle.ca_every_vector.proofs.ListLemmas.{AreSameTo}
use Rattle.ca_every_vector.proofs.lane_stays.restore_lanes.Given as goal

abbrev pub invariant-loop-place : goal.invariant-loop-place
invariant-loop-place l = record {
  room : HasNodes (length l.from.zeros.items) l.values;
  same : InEach (λ lane. AreSameTo (state_in l.values lane) (state_in l.from lane) l.nets l.place);
}
