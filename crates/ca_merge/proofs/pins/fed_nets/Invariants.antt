use Rattle.ca_merge.specs.Draft.{feeds_members}
use Rattle.ca_merge.specs.code.Pins.{IsListed}
use Rattle.ca_merge.proofs.pins.fed_nets.Given as goal

abbrev pub invariant-loop-k : goal.invariant-loop-k
invariant-loop-k l = IsListed (feeds_members l.chip l.members) 2 l.k l.pins.nets l.pins.seats.items
