use Rattle.std.proofs.Common.{take}
use Rattle.ca_view.specs.code.Links.{Grows, IsLinkOfPins}
use Rattle.ca_view.proofs.links.LinkTable.add_instance.Given as goal

abbrev pub invariant-loop-from : goal.invariant-loop-from
invariant-loop-from l = Grows (IsLinkOfPins (take l.from-index l.froms) l.tos) l.fn.self l.self
