use Rattle.std.proofs.Common.{◌≡◌, ◌<◌, ℕ, length, slice_get}
use Rattle.std.specs.Prelude.{Some}
use Rattle.ca_net.specs.declared.device.Device.{Device}
use Rattle.ca_net.specs.Circuit.{NamesWithin}
use Rattle.ca_net.proofs.flat_net.FlatNet.new.Given as goal

abbrev pub invariant-loop-i : goal.invariant-loop-i
invariant-loop-i l = (k : ℕ) (d : Device) → k < l.i → slice_get l.fn.devices k ≡ Some d → NamesWithin (length l.fn.nodes) d
