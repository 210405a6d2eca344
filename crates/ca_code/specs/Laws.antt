-- What the codes that a search writes are.
use Rattle.std.specs.Prelude.{ℕ, List}
use Rattle.ca_net.specs.declared.trit.Trit.{Trit}
use Rattle.ca_flat.specs.declared.chip_defect.ChipDefect.{ChipDefect}
use Rattle.ca_flat.specs.declared.token.Token.{Token}
use Rattle.ca_flat.specs.Chip.{Chip}
use Rattle.ca_flat.specs.Waves.{IsFlatChip}
use Rattle.ca_flat.specs.Codes.{IsWholeBy, IsFrontBy, IsSpentBy, IsWholeCode, IsFront, IsSpentCode}
use Rattle.ca_flat.specs.CheckedCode.{checked_rules}
use Rattle.ca_code.specs.SearchRules.{search_rules}

-- a code by the rules of a search is a code: a whole one is whole, a front is one, and a spent one is spent
pub record SearchIsCode (chip : Chip) (defect : ChipDefect) (code : List Token) : Type 0 where
  pub whole : IsWholeBy (search_rules chip defect) chip code → IsWholeCode chip defect code
  pub front : (pair : List Trit) → IsFrontBy (search_rules chip defect) chip code pair
      → IsFront chip defect code pair
  pub spent : (budget : ℕ) → IsSpentBy (search_rules chip defect) chip budget code
      → IsSpentCode chip defect budget code

-- each code by the rules of a search is a code
abbrev pub SearchCodesAreCodes : Type 0
SearchCodesAreCodes =
    (chip : Chip) (rank : ℕ → ℕ) (defect : ChipDefect) (code : List Token)
    → IsFlatChip chip rank defect → SearchIsCode chip defect code

-- it can't be that a code by the rules of a search isn't a checked one
pub record SearchIsChecked (chip : Chip) (defect : ChipDefect) (code : List Token) : Type 0 where
  pub whole : IsWholeBy (search_rules chip defect) chip code
      → (IsWholeBy (checked_rules chip defect) chip code → ⊥) → ⊥
  pub front : (pair : List Trit) → IsFrontBy (search_rules chip defect) chip code pair
      → (IsFrontBy (checked_rules chip defect) chip code pair → ⊥) → ⊥
  pub spent : (budget : ℕ) → IsSpentBy (search_rules chip defect) chip budget code
      → (IsSpentBy (checked_rules chip defect) chip budget code → ⊥) → ⊥

-- of no code by the rules of a search
abbrev pub SearchCodesAreChecked : Type 0
SearchCodesAreChecked =
    (chip : Chip) (rank : ℕ → ℕ) (defect : ChipDefect) (code : List Token)
    → IsFlatChip chip rank defect → SearchIsChecked chip defect code
