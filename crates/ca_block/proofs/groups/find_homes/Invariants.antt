use Rattle.std.proofs.Common.{◌≡◌, ◌<◌, ℕ, length, get_or}
use Rattle.std.specs.Prelude.{Some, slice_get}
use Rattle.ca_net.specs.declared.device.Device.{Device}
use Rattle.ca_block.specs.Groups.{AreWithin, HasHome}
use Rattle.ca_block.proofs.groups.find_homes.Given as goal

abbrev pub invariant-loop-i : goal.invariant-loop-i
invariant-loop-i g l = record {
  within : AreWithin l.i (length (g.N.Network.circuit l.net).nodes) l.homes;
  homes : (k : ℕ) (d : Device) → k < l.i → slice_get (g.N.Network.circuit l.net).devices k ≡ Some d
      → HasHome (g.N.Network.circuit l.net) l.labels d (get_or l.homes k 0);
}
