use Rattle.std.proofs.Common.{◌≡◌, length}
use Rattle.ca_sim.specs.Simulator.{KeepsChip}
use Rattle.ca_certify.specs.code.Claimed.{AreClaimsOn}
use Rattle.ca_certify.proofs.claims.claims_on.Given as goal

abbrev pub invariant-loop-place : goal.invariant-loop-place
invariant-loop-place g l = record {
  claims : AreClaimsOn l.fn.judge.seen.chip l.fn.search.budget l.defects l.verdicts l.claims;
  counted : length l.claims ≡ l.place;
  chip : KeepsChip l.fn.judge l.judge;
  budget : l.search.budget ≡ l.fn.search.budget;
}
