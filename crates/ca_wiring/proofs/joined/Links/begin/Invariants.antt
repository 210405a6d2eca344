use Rattle.std.proofs.Common.{◌≡◌, length}
use Rattle.ca_wiring.specs.code.Forest.{AreTheirOwn}
use Rattle.ca_wiring.proofs.joined.Links.begin.Given as goal

abbrev pub invariant-loop-w : goal.invariant-loop-w
invariant-loop-w l = record {
  count : length l.parents.items ≡ l.w;
  own : AreTheirOwn l.w l.parents.items;
}
