-- What a search for one defect ends with.
use Rattle.std.specs.Prelude.{ℕ, List}
use Rattle.ca_net.specs.declared.trit.Trit.{Trit}
use Rattle.ca_flat.specs.declared.chip_defect.ChipDefect.{ChipDefect}
use Rattle.ca_flat.specs.declared.token.Token.{Token}
use Rattle.ca_flat.specs.Chip.{Chip}
use Rattle.ca_flat.specs.Pair.{IsShown}
use Rattle.ca_flat.specs.Codes.{IsFront, IsSpentBy, IsSpentCode}
use Rattle.ca_code.specs.SearchRules.{search_rules}

-- the code is a front, and the partial pair of its reading is shown
pub record IsShownFront (chip : Chip) (defect : ChipDefect) (code : List Token) (partial : List Trit) : Type 0
  where
    pub front : IsFront chip defect code partial
    pub shown : IsShown chip defect partial

-- the code is spent for the budget, also by the rules of a search, so that it can be checked
pub record IsSpentSearch (chip : Chip) (budget : ℕ) (defect : ChipDefect) (code : List Token) : Type 0 where
  pub spent : IsSpentCode chip defect budget code
  pub checked : IsSpentBy (search_rules chip defect) chip budget code
