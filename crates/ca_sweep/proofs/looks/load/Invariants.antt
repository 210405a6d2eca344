use Rattle.std.proofs.Common.{ℕ, ◌≡◌, ◌<◌, length}
use Rattle.ca_response.specs.Gives.{wave_at}
use Rattle.ca_sweep.proofs.looks.load.Given as goal

abbrev pub invariant-loop-net : goal.invariant-loop-net
invariant-loop-net g l = record {
  count : length l.into.items ≡ length l.fn.into.items;
  same : (net : ℕ) → net < l.net → wave_at l.into.items net ≡ wave_at (g.V.NetWaves.seen l.waves).good net;
}
