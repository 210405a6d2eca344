use Rattle.std.proofs.Common.{◌≡◌, ◌<◌, ℕ}
use Rattle.ca_net.specs.State.{value_at}
use Rattle.ca_planes.specs.Trits.{state_in}
use Rattle.ca_block.proofs.turns.is_same.Given as goal

abbrev pub invariant-loop-n : goal.invariant-loop-n
invariant-loop-n l = (lane m : ℕ) → lane < 64 → m < l.n → value_at (state_in l.state lane) m ≡ value_at (state_in l.other lane) m
