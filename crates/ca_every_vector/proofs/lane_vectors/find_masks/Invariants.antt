use Rattle.std.proofs.Common.{◌≡◌, ◌^◌, length}
use Rattle.ca_flat.specs.Chip.{net_of}
use Rattle.ca_every_vector.specs.code.Lanes.{values_of}
use Rattle.ca_every_vector.proofs.LaneLemmas.{AreMasksOf}
use Rattle.ca_every_vector.proofs.lane_vectors.find_masks.Given as goal

abbrev pub invariant-loop-pin : goal.invariant-loop-pin
invariant-loop-pin l = record {
  count : l.count ≡ 2 ^ l.pin;
  room : length l.masks.items ≡ 64;
  masks : AreMasksOf (λ lane pin. values_of l.values lane (net_of l.chip.core l.w pin)) l.pin l.count l.masks.items;
}
