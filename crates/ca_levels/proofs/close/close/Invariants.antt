use Rattle.std.proofs.Common.{◌*◌, ◌-◌, ◌^◌, length}
use Rattle.std.specs.List.{sum}
use Rattle.ca_levels.specs.code.Come.{RaisesSome}
use Rattle.ca_levels.proofs.close.close.Given as goal

abbrev pub invariant-sweeps : goal.invariant-sweeps
invariant-sweeps l = RaisesSome l.devices l.links l.blocked l.fn.reached l.reached

abbrev pub decreases-sweeps : goal.decreases-sweeps
decreases-sweeps l = 2 ^ 64 * length l.reached - sum l.reached
