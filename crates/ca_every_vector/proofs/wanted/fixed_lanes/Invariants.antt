use Rattle.std.proofs.Common.{ℕ, ◌≡◌, ◌<◌, length}
use Rattle.ca_net.specs.State.{value_at}
use Rattle.ca_planes.specs.Trits.{HasNodes}
use Rattle.ca_every_vector.specs.code.Lanes.{InEach, values_of}
use Rattle.ca_every_vector.proofs.wanted.fixed_lanes.Given as goal

abbrev pub invariant-loop-net : goal.invariant-loop-net
invariant-loop-net l = record {
  nodes : HasNodes (length l.fixed) l.block;
  same : InEach (λ lane. (net : ℕ) → net < l.net → values_of l.block lane net ≡ value_at l.fixed net);
}
