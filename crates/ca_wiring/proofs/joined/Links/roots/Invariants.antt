use Rattle.std.proofs.Common.{◌≡◌, length}
use Rattle.ca_wiring.specs.code.Forest.{AreRoots}
use Rattle.ca_wiring.proofs.joined.Links.roots.Given as goal

abbrev pub invariant-loop-w : goal.invariant-loop-w
invariant-loop-w l = record {
  count : length l.roots.items ≡ l.w;
  are : AreRoots l.self l.w l.roots.items;
}
