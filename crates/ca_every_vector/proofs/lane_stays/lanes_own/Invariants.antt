use Rattle.std.proofs.Common.{ℕ, ◌<◌, ◌≢◌}
use Rattle.ca_net.specs.declared.trit.Trit.TheVariants.{X}
use Rattle.ca_flat.specs.Chip.{output_net}
use Rattle.ca_every_vector.specs.code.Lanes.{InLanes, values_of}
use Rattle.ca_every_vector.proofs.lane_stays.lanes_own.Given as goal

abbrev pub invariant-loop-output : goal.invariant-loop-output
invariant-loop-output l = InLanes l.lanes (λ lane. (output : ℕ) → output < l.output → values_of l.values lane (output_net l.chip.core l.u output) ≢ X)
