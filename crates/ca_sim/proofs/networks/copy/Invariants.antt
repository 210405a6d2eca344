use Rattle.std.proofs.Common.{◌≡◌, ◌<◌, ℕ, length}
use Rattle.ca_net.specs.State.{value_at}
use Rattle.ca_sim.proofs.networks.copy.Given as goal

abbrev pub invariant-loop-bit : goal.invariant-loop-bit
invariant-loop-bit l = record {
  count : length l.into ≡ length l.fn.into;
  same : (k : ℕ) → k < l.bit → value_at l.into k ≡ value_at l.from k;
}
