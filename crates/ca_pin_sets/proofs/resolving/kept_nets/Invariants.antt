use Rattle.std.proofs.Common.{◌≡◌, take}
use Rattle.ca_pin_sets.specs.Resolved.{kept_nets}
use Rattle.ca_pin_sets.proofs.resolving.kept_nets.Given as goal

abbrev pub invariant-loop-place : goal.invariant-loop-place
invariant-loop-place l = l.names ≡ kept_nets 0 (take l.place l.homes) (take l.place l.nets)
