use Rattle.std.proofs.Common.{◌≢◌, ◌<◌, ℕ}
use Rattle.ca_net.specs.declared.trit.Trit.TheVariants.{X}
use Rattle.ca_flat.specs.Chip.{net_of}
use Rattle.ca_every_vector.specs.code.Lanes.{InLanes, values_of}
use Rattle.ca_every_vector.proofs.lane_vectors.lanes_known.Given as goal

abbrev pub invariant-loop-pin : goal.invariant-loop-pin
invariant-loop-pin l = InLanes l.lanes (λ lane. (pin : ℕ) → pin < l.pin → values_of l.values lane (net_of l.chip.core l.w pin) ≢ X)
