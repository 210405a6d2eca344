use Rattle.std.proofs.Common.{◌≡◌, length}
use Rattle.ca_sweep.proofs.lane_goods.settle_lanes.Given as goal

abbrev pub invariant-loop-place : goal.invariant-loop-place
invariant-loop-place l = record {
  masks : length l.masks.items ≡ 64;
  nets : length l.planes.items ≡ length l.chip.core.nets;
}
