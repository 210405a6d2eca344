use Rattle.std.proofs.Common.{ℕ, ◌≡◌, ◌<◌, true}
use Rattle.std.specs.Prelude.{◌≢◌, slice_index_or}
use Rattle.ca_net.specs.declared.trit.Trit.TheVariants.{X}
use Rattle.ca_net.specs.State.{value_at}
use Rattle.std.specs.Prelude.{false}
use Rattle.ca_sweep.proofs.pinned.are_all_definite.Given as goal

abbrev pub invariant-loop-net : goal.invariant-loop-net
invariant-loop-net l = (net : ℕ) → net < l.net → slice_index_or l.pinned net false ≡ true → value_at l.lasts net ≢ X
