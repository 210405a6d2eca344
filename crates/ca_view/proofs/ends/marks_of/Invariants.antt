use Rattle.std.specs.Prelude.{take}
use Rattle.ca_view.specs.code.Ends.{AreMarked}
use Rattle.ca_view.proofs.ends.marks_of.Given as goal

abbrev pub invariant-loop-net : goal.invariant-loop-net
invariant-loop-net l = AreMarked l.count (take l.net-index l.nets) l.marks.items
