use Rattle.std.proofs.Common.{ℕ, ◌≡◌, ◌<◌, length}
use Rattle.ca_net.specs.State.{value_at}
use Rattle.ca_sweep.proofs.sweep.copy.Given as goal

abbrev pub invariant-loop-net : goal.invariant-loop-net
invariant-loop-net l = record {
  count : length l.into ≡ length l.fn.into;
  same : (net : ℕ) → net < l.net → value_at l.into net ≡ value_at l.from net;
}
