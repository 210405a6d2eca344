use Rattle.std.proofs.Common.{◌≡◌, ℕ, Bool, List, length}
use Rattle.ca_credit.specs.Defects.{Task}
use Rattle.ca_credit.specs.Good.{IsGood}
use Rattle.ca_generate.specs.Known.{AreUntestable}
use Rattle.ca_generate.proofs.ruled_out.rule_out.Given as goal

abbrev pub invariant-loop-place : goal.invariant-loop-place
invariant-loop-place l = record {
  as_many : length l.verdicts ≡ length l.fn.verdicts;
  good : (task : Task) (pairs : List (List Bool)) (aims : List ℕ) → AreUntestable task l.untestable
      → IsGood task pairs aims l.fn.verdicts → IsGood task pairs aims l.verdicts;
}
