use Rattle.std.proofs.Common.{ℕ, ◌≡◌, ◌<◌, length}
use Rattle.ca_net.specs.declared.trit.Trit.TheVariants.{X}
use Rattle.ca_net.specs.State.{value_at}
use Rattle.ca_sim.proofs.networks.forget.Given as goal

abbrev pub invariant-loop-bit : goal.invariant-loop-bit
invariant-loop-bit l = record {
  count : length l.bits ≡ length l.fn.bits;
  unknown : (bit : ℕ) → bit < l.bit → value_at l.bits bit ≡ X;
}
