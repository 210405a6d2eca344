use Rattle.std.proofs.Common.{◌≡◌, ℕ, ◌<◌}
use Rattle.ca_response.specs.Gives.{wave_at}
use Rattle.ca_sim.proofs.cache.same_waves.Given as goal

abbrev pub invariant-loop-place : goal.invariant-loop-place
invariant-loop-place l = (k : ℕ) → k < l.place → wave_at l.a k ≡ wave_at l.b k
