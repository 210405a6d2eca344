use Rattle.std.proofs.Common.{ℕ, ◌≡◌, ◌<◌, length}
use Rattle.ca_net.specs.State.{value_at}
use Rattle.ca_response.specs.Gives.{wave_at}
use Rattle.ca_every_vector.proofs.values.load_lasts.Given as goal

abbrev pub invariant-loop-net : goal.invariant-loop-net
invariant-loop-net g l = record {
  count : length l.values ≡ length l.fn.values;
  same : (net : ℕ) → net < l.net → value_at l.values net ≡ (wave_at (g.V.NetWaves.seen l.waves).good net).last;
}
