-- How a search has ended for the defect that it was for.
use Rattle.std.specs.Prelude.{ℕ, ◌≤◌, List, Some}
use Rattle.ca_net.specs.declared.trit.Trit.{Trit}
use Rattle.ca_flat.specs.declared.chip_defect.ChipDefect.{ChipDefect}
use Rattle.ca_flat.specs.declared.token.Token.{Token}
use Rattle.ca_flat.specs.Chip.{Chip}
use Rattle.ca_flat.specs.Waves.{IsFlatChip}
use Rattle.ca_flat.specs.Codes.{branch_count, IsWholeCode}
use Rattle.ca_code.specs.Ends.{IsShownFront, IsSpentSearch}
use Rattle.ca_search.specs.declared.trail.Outcome.{Outcome}
use Rattle.ca_search.specs.declared.trail.Outcome.TheVariants.{Found, Exhausted, Spent}
use Rattle.ca_search.specs.Judged.{Judged}
use Rattle.ca_search.specs.Outcome.{IsOutcome}

-- found with a front whose partial pair is shown, exhausted with a whole code, and spent with a spent one
abbrev pub EndsSo : Chip → ℕ → ChipDefect → List Token → List Trit → Outcome → Type 0
EndsSo chip budget defect code partial Found = IsShownFront chip defect code partial
EndsSo chip budget defect code partial Exhausted = IsWholeCode chip defect code
EndsSo chip budget defect code partial Spent = IsSpentSearch chip budget defect code

-- a search for the chip's defect, with no more branches than the budget, has ended so, with this code and at
-- this partial pair
pub record IsSearch (chip : Chip) (budget : ℕ) (defect : ChipDefect) (code : List Token) (partial : List Trit)
    (outcome : Outcome) : Type 0 where
  pub within : branch_count code ≤ budget
  pub ends : EndsSo chip budget defect code partial outcome

-- what a search for the defect is given: its chip, the places of the instances, the defect, and the bits
abbrev pub judged_for : Chip → List ℕ → ChipDefect → List Trit → Judged
judged_for chip places defect partial =
    record { chip = chip; places = places; aim = Some defect; pair = partial }

-- what a search answers for a defect whose flat networks are networks is the end of a search for it
abbrev pub OutcomeIsSearch : Type 0
OutcomeIsSearch =
    (chip : Chip) (rank : ℕ → ℕ) (budget : ℕ) (places : List ℕ) (defect : ChipDefect) (code : List Token)
    (partial : List Trit) (outcome : Outcome) → IsFlatChip chip rank defect → branch_count code ≤ budget
    → IsOutcome (judged_for chip places defect partial) budget code outcome
    → IsSearch chip budget defect code partial outcome
