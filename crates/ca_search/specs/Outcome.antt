-- What a search answers.
use Rattle.std.specs.Prelude.{ℕ, List}
use Rattle.ca_flat.specs.declared.token.Token.{Token}
use Rattle.ca_flat.specs.Codes.{IsWholeBy, IsFrontBy, IsSpentBy}
use Rattle.ca_search.specs.declared.trail.Outcome.{Outcome}
use Rattle.ca_search.specs.declared.trail.Outcome.TheVariants.{Found, Exhausted, Spent}
use Rattle.ca_code.specs.SearchRules.{rules_for}
use Rattle.ca_search.specs.Judged.{Judged, IsShownFor}

-- the budget of branches, and the code that was written
pub record Searched : Type 0 where
  pub budget : ℕ
  pub code : List Token

-- found with a front whose next partial pair is in hand and is shown; exhausted with a whole code; spent with
-- a spent code; each by the rules of a search
abbrev pub IsOutcome : Judged → ℕ → List Token → Outcome → Type 0
IsOutcome judged budget code Found =
    IsFrontBy (rules_for judged.chip judged.aim) judged.chip code judged.pair
    × IsShownFor judged.chip judged.aim judged.pair
IsOutcome judged budget code Exhausted = IsWholeBy (rules_for judged.chip judged.aim) judged.chip code
IsOutcome judged budget code Spent = IsSpentBy (rules_for judged.chip judged.aim) judged.chip budget code
