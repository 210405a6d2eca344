use Rattle.std.proofs.Common.{ℕ, ◌<◌}
use Rattle.ca_linked.specs.Drivers.{IsSingle, sources_at}
use Rattle.ca_linked.proofs.drivers.Drivers.first_flaw.Given as goal

abbrev pub invariant-loop-net : goal.invariant-loop-net
invariant-loop-net l = (before : ℕ) → before < l.net → IsSingle (sources_at l.self before)
