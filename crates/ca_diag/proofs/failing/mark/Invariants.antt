use Rattle.std.proofs.Common.{◌≡◌, length, take}
use Rattle.ca_diag.specs.code.Failing.{AreMarked}
use Rattle.ca_diag.proofs.failing.mark.Given as goal

abbrev pub invariant-loop-k : goal.invariant-loop-k
invariant-loop-k l = record {
  room : length l.marks.items ≡ length l.fn.marks.items;
  marked : AreMarked (take l.k l.outputs) l.marks.items;
}
