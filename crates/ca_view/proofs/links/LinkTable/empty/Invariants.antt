use Rattle.std.proofs.Common.{◌≡◌, [], replicate}
use Rattle.ca_view.specs.code.Pins.{items_of}
use Rattle.ca_view.proofs.links.LinkTable.empty.Given as goal

abbrev pub invariant-loop-net : goal.invariant-loop-net
invariant-loop-net l = items_of l.lists.items ≡ replicate l._net []
