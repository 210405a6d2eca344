use Rattle.std.proofs.Common.{◌≡◌, ◌<◌, ℕ, length}
use Rattle.ca_net.specs.declared.trit.Trit.TheVariants.{X}
use Rattle.ca_net.specs.State.{value_at}
use Rattle.ca_planes.specs.Trits.{state_in}
use Rattle.ca_block.proofs.start.forget.Given as goal

abbrev pub invariant-loop-n : goal.invariant-loop-n
invariant-loop-n l = record {
  zeros : length l.state.zeros.items ≡ length l.fn.state.zeros.items;
  ones : length l.state.ones.items ≡ length l.fn.state.ones.items;
  unknown : (lane m : ℕ) → lane < 64 → m < l.n → value_at (state_in l.state lane) m ≡ X;
}
