use Rattle.std.proofs.Common.{◌+◌, ◌*◌, ◌-◌, ◌^◌, length}
use Rattle.std.specs.List.{sum}
use Rattle.ca_levels.specs.code.Come.{RaisesSome}
use Rattle.ca_levels.proofs.close.close_pair.Given as goal

abbrev pub invariant-sweeps : goal.invariant-sweeps
invariant-sweeps l = record {
  zeros : RaisesSome l.devices l.links l.blocked l.fn.zeros l.zeros;
  ones : RaisesSome l.devices l.links l.blocked l.fn.ones l.ones;
}

abbrev pub decreases-sweeps : goal.decreases-sweeps
decreases-sweeps l = 2 ^ 64 * (length l.zeros + length l.ones) - (sum l.zeros + sum l.ones)
