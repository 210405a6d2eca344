use Rattle.std.proofs.Common.{◌≡◌, ◌≤◌, ◌-◌, length}
use Rattle.ca_cert.specs.Tested.{KeepsPair}
use Rattle.ca_cert.specs.code.Sought.{AreTried, StaySought}
use Rattle.ca_cert.proofs.detection.Sought.look_with.Given as goal

abbrev pub invariant-places : goal.invariant-places
invariant-places g l = record {
  tried : AreTried (g.T.Examiner.examined l.fn.tester).chip (g.T.Tester.listed l.fn.tester) l.pairs l.pair l.from l.self;
  stay : StaySought l.fn.self l.self;
  kept : KeepsPair (g.T.Examiner.examined l.fn.tester) (g.T.Examiner.examined l.tester);
  list : g.T.Tester.listed l.tester ≡ g.T.Tester.listed l.fn.tester;
  within : l.from ≤ length (g.T.Tester.listed l.fn.tester);
}

abbrev pub decreases-places : goal.decreases-places
decreases-places g l = length (g.T.Tester.listed l.fn.tester) - l.from
