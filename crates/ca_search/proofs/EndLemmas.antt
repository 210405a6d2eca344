-- The end of a search for one defect.
use Rattle.std.proofs.Common.{ℕ, List}
use Rattle.ca_net.specs.declared.trit.Trit.{Trit}
use Rattle.ca_flat.specs.declared.chip_defect.ChipDefect.{ChipDefect}
use Rattle.ca_flat.specs.declared.token.Token.{Token}
use Rattle.ca_flat.specs.Chip.{Chip}
use Rattle.ca_flat.specs.Waves.{IsFlatChip}
use Rattle.ca_code.proofs.RuleLemmas.{search_codes_are_codes_lem}
use Rattle.ca_search.specs.declared.trail.Outcome.{Outcome}
use Rattle.ca_search.specs.declared.trail.Outcome.TheVariants.{Found, Exhausted, Spent}
use Rattle.ca_search.specs.Outcome.{IsOutcome}
use Rattle.ca_search.specs.Ends.{EndsSo, judged_for, OutcomeIsSearch}

ends_so : (chip : Chip) (rank : ℕ → ℕ) (budget : ℕ) (places : List ℕ) (defect : ChipDefect) (code : List Token) (partial : List Trit)
    (outcome : Outcome) → IsFlatChip chip rank defect → IsOutcome (judged_for chip places defect partial) budget code outcome
    → EndsSo chip budget defect code partial outcome
ends_so chip rank budget places defect code partial Found flat is =
    let codes = search_codes_are_codes_lem chip rank defect code flat in
    record { front = codes.front partial is.0; shown = is.1 }
ends_so chip rank budget places defect code partial Exhausted flat is =
    (search_codes_are_codes_lem chip rank defect code flat).whole is
ends_so chip rank budget places defect code partial Spent flat is =
    let codes = search_codes_are_codes_lem chip rank defect code flat in
    record { spent = codes.spent budget is; checked = is }

pub outcome_is_search_lem : OutcomeIsSearch
outcome_is_search_lem chip rank budget places defect code partial outcome flat within is =
    record { within = within; ends = ends_so chip rank budget places defect code partial outcome flat is }
