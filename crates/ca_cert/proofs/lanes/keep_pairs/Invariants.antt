use Rattle.std.proofs.Common.{◌≡◌}
use Rattle.ca_cert.specs.Tested.{KeepsChip}
use Rattle.ca_cert.proofs.lanes.keep_pairs.Given as goal

abbrev pub invariant-loop-lane : goal.invariant-loop-lane
invariant-loop-lane g l = record {
  kept : KeepsChip (g.T.Examiner.examined l.fn.tester) (g.T.Examiner.examined l.tester);
  listed : g.T.Tester.listed l.tester ≡ g.T.Tester.listed l.fn.tester;
}
