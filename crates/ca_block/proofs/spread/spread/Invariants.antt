use Rattle.std.proofs.Common.{◌≡◌, ◌<◌, ℕ, length}
use Rattle.ca_net.specs.State.{value_at}
use Rattle.ca_planes.specs.Trits.{HasNodes, state_in}
use Rattle.ca_block.specs.Limits.{source_lane}
use Rattle.ca_block.proofs.spread.spread.Given as goal

abbrev pub invariant-loop-n : goal.invariant-loop-n
invariant-loop-n l = record {
  room : HasNodes (length l.states.zeros.items) l.into;
  spread : (lane m : ℕ) → lane < 64 → m < l.n → value_at (state_in l.into lane) m ≡ value_at (state_in l.states (source_lane l.fn.power l.fn.block lane)) m;
}
