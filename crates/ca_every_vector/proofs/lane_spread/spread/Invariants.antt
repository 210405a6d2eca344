use Rattle.std.proofs.Common.{◌≡◌, length}
use Rattle.ca_view.specs.Linked.{place_in}
use Rattle.ca_every_vector.specs.code.Lanes.{AreLanesSpread}
use Rattle.ca_every_vector.proofs.lane_spread.spread.Given as goal

abbrev pub invariant-loop-place : goal.invariant-loop-place
invariant-loop-place l = record {
  spread : AreLanesSpread l.chip.core (place_in l.chip.ranks) l.u l.values l.others l.changed.items l.touched.items;
  room : length l.masks.items ≡ 64;
}
