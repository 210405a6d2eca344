use Rattle.std.proofs.Common.{ℕ, ◌≡◌, ◌<◌, true, false}
use Rattle.std.specs.Prelude.{slice_index_or}
use Rattle.ca_net.specs.State.{value_at}
use Rattle.ca_sweep.specs.Seen.{trits_in}
use Rattle.ca_sweep.proofs.lane_sweep.agree.Given as goal

abbrev pub invariant-loop-net : goal.invariant-loop-net
invariant-loop-net l = (net : ℕ) → net < l.net → slice_index_or l.pinned net false ≡ true → value_at (trits_in l.ones l.lane) net ≡ value_at l.lasts net
