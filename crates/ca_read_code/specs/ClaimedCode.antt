-- The rules of the codes that claims have.
use Rattle.std.specs.Prelude.{ℕ, List}
use Rattle.ca_net.specs.declared.trit.Trit.{Trit}
use Rattle.ca_flat.specs.declared.chip_defect.ChipDefect.{ChipDefect}
use Rattle.ca_flat.specs.declared.token.Token.{Token}
use Rattle.ca_flat.specs.Chip.{Chip}
use Rattle.ca_flat.specs.Waves.{IsFlatChip}
use Rattle.ca_flat.specs.Codes.{Rules, MayBranch, IsWholeBy, IsFrontBy, IsSpentBy, IsWholeCode, IsFront}
use Rattle.ca_flat.specs.Codes.{IsSpentCode}
use Rattle.ca_flat.specs.CheckedCode.{MayLeave}

-- the rules of a claimed code: a leaf stands where the pair is seen to be ruled out, and a branch at an open
-- pair on an unset bit of the support
abbrev pub claim_rules : Chip → ChipDefect → Rules
claim_rules chip defect = record { leaf = MayLeave chip defect; branch = MayBranch chip defect }

-- a claimed code is a code: a whole one is whole, a front is one, and a spent one is spent
pub record ClaimedIsCode (chip : Chip) (defect : ChipDefect) (code : List Token) : Type 0 where
  pub whole : IsWholeBy (claim_rules chip defect) chip code → IsWholeCode chip defect code
  pub front : (pair : List Trit) → IsFrontBy (claim_rules chip defect) chip code pair
      → IsFront chip defect code pair
  pub spent : (budget : ℕ) → IsSpentBy (claim_rules chip defect) chip budget code
      → IsSpentCode chip defect budget code

-- each one is
abbrev pub ClaimedCodesAreCodes : Type 0
ClaimedCodesAreCodes =
    (chip : Chip) (rank : ℕ → ℕ) (defect : ChipDefect) (code : List Token)
    → IsFlatChip chip rank defect → ClaimedIsCode chip defect code
