use Rattle.std.proofs.Common.{[], replicate}
use Rattle.ca_view.specs.code.Links.{Grows, IsLinkOfFirst}
use Rattle.ca_view.proofs.links.LinkTable.onward.Given as goal

abbrev pub invariant-loop-instance : goal.invariant-loop-instance
invariant-loop-instance l = Grows (IsLinkOfFirst l.pins l.instance) (replicate l.pins.nets []) l.table
