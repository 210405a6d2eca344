use Rattle.std.proofs.Common.{take}
use Rattle.ca_view.specs.code.Links.{Grows, IsLinkToEach}
use Rattle.ca_view.proofs.links.LinkTable.add_to_each.Given as goal

abbrev pub invariant-loop-to : goal.invariant-loop-to
invariant-loop-to l = Grows (IsLinkToEach l.from (take l.to-index l.tos)) l.fn.self l.self
