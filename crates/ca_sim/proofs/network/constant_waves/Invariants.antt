use Rattle.std.proofs.Common.{◌-◌, drop}
use Rattle.ca_sim.specs.code.Network.{HasConstantsFrom}
use Rattle.ca_sim.proofs.network.constant_waves.Given as goal

abbrev pub invariant-loop-k : goal.invariant-loop-k
invariant-loop-k l = HasConstantsFrom l.chip.core (drop (l.count - l.k) l.chip.core.constants) l.waves
