-- What claims say, as verdicts, and what is to be done with the defects of a chip that is viewed.
use Rattle.std.specs.Prelude.{ℕ, List, map}
use Rattle.ca_view.specs.View.{Viewed}
use Rattle.ca_linked.specs.Instances.{gates_of}
use Rattle.ca_chip_defects.specs.ChipDefects.{chip_defects}
use Rattle.ca_claim.specs.declared.claim.Claim.{Claim}
use Rattle.ca_claim.specs.declared.claim.Claim.TheVariants as claim
use Rattle.ca_credit.specs.declared.verdict.Verdict.{Verdict}
use Rattle.ca_credit.specs.declared.verdict.Verdict.TheVariants as verdict
use Rattle.ca_credit.specs.Defects.{Task}

-- the verdict that a claim gives: that a defect is untestable is said without the code
abbrev pub verdict_of : Claim → Verdict
verdict_of (claim.Credited pair output) = verdict.Credited pair output
verdict_of claim.Unexposable = verdict.Unexposable
verdict_of (claim.Untestable code) = verdict.Untestable
verdict_of (claim.Aborted code) = verdict.Aborted code

-- those that claims give
abbrev pub verdicts_of : List Claim → List Verdict
verdicts_of claims = map verdict_of claims

-- to search, with at most `budget` branches for each, for pairs that show the defects of the library
-- instances of the chip that is viewed
abbrev pub viewed_task : Viewed → ℕ → Task
viewed_task view budget = record {
  chip = view.core;
  chip_of = λ place. view.core;
  defects = chip_defects view.core (gates_of view.chip);
  budget = budget;
}
