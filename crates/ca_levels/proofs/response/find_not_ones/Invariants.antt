use Rattle.std.proofs.Common.{◌≡◌, ◌<◌, ◌↔◌, ◌≢◌, ℕ, true}
use Rattle.ca_net.specs.declared.trit.Trit.TheVariants.{One}
use Rattle.ca_net.specs.State.{value_at}
use Rattle.ca_planes.specs.Plane.{lane_at}
use Rattle.ca_planes.specs.Trits.{state_in}
use Rattle.ca_levels.proofs.response.find_not_ones.Given as goal

abbrev pub invariant-loop-node : goal.invariant-loop-node
invariant-loop-node l = (n lane : ℕ) → n < l.node → lane < 64 → (lane_at l.not_ones n lane ≡ true) ↔ (value_at (state_in l.from lane) n ≢ One)
