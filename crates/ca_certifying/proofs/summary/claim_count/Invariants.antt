use Rattle.std.proofs.Common.{◌≡◌, ◌≤◌}
use Rattle.std.specs.Prelude.{take}
use Rattle.ca_certifying.specs.Certified.{claim_count}
use Rattle.ca_certifying.proofs.summary.claim_count.Given as goal

abbrev pub invariant-loop-k : goal.invariant-loop-k
invariant-loop-k l = record {
  few : l.count ≤ l.k;
  counted : l.count ≡ claim_count l.kind (take l.k l.claims);
}
