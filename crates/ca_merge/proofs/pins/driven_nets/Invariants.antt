use Rattle.ca_merge.specs.Draft.{drives_net}
use Rattle.ca_merge.specs.code.Pins.{IsListed}
use Rattle.ca_merge.proofs.pins.driven_nets.Given as goal

abbrev pub invariant-loop-k : goal.invariant-loop-k
invariant-loop-k l = IsListed (drives_net l.chip l.members) l.fn.first l.k l.pins.nets l.pins.seats.items
