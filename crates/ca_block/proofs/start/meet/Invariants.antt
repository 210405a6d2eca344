use Rattle.std.proofs.Common.{◌≡◌, ◌<◌, ℕ, length}
use Rattle.ca_net.specs.State.{value_at}
use Rattle.ca_net.specs.Trit.{meet_of}
use Rattle.ca_planes.specs.Trits.{HasNodes, state_in}
use Rattle.ca_block.proofs.start.meet.Given as goal

abbrev pub invariant-loop-n : goal.invariant-loop-n
invariant-loop-n l = record {
  room : HasNodes (length l.state.zeros.items) l.into;
  met : (lane m : ℕ) → m < l.n → value_at (state_in l.into lane) m ≡ meet_of (value_at (state_in l.state lane) m) (value_at (state_in l.other lane) m);
}
