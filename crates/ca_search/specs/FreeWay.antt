-- Ways to a pair that shows a defect, on which no bit has to be justified.
use Rattle.std.specs.Prelude.{ℕ, ◌≡◌, List, [], ◌∷◌}
use Rattle.ca_net.specs.declared.trit.Trit.{Trit}
use Rattle.ca_net.specs.declared.trit.Trit.TheVariants.{X}
use Rattle.ca_net.specs.State.{value_at}
use Rattle.ca_flat.specs.declared.chip_defect.ChipDefect.{ChipDefect}
use Rattle.ca_flat.specs.declared.token.Token.{Token}
use Rattle.ca_flat.specs.declared.token.Token.TheVariants.{Branch, Leaf}
use Rattle.ca_flat.specs.Chip.{Chip}
use Rattle.ca_flat.specs.Chain.{IsSupportBit}
use Rattle.ca_flat.specs.Pair.{IsShown}
use Rattle.ca_flat.specs.Waves.{IsFlatChip}
use Rattle.ca_flat.specs.Codes.{unset_pair, with_bit, IsFrontBy}
use Rattle.ca_code.specs.SearchRules.{search_rules}

-- the bit is an unset one of the support
pub record MaySet (chip : Chip) (defect : ChipDefect) (pair : List Trit) (bit : ℕ) : Type 0 where
  pub supports : IsSupportBit chip defect bit
  pub unset : value_at pair bit ≡ X

-- the first values of branches on unset bits of the support lead from the one pair to the other, and no pair
-- before the last shows the defect
abbrev pub IsFreeWay : Chip → ChipDefect → List Token → List Trit → List Trit → Type 0
IsFreeWay chip defect [] from to = from ≡ to
IsFreeWay chip defect (Leaf ∷ code) from to = ⊥
IsFreeWay chip defect (Branch bit first ∷ code) from to = (IsShown chip defect from → ⊥)
    × MaySet chip defect from bit × IsFreeWay chip defect code (with_bit from bit first) to

-- Where such a way leads from the pair without bits to one that shows the defect, it is a front that a search
-- may answer: no pair before the last is settled or plainly ruled out, since a completion detects.
abbrev pub FreeWayIsFront : Type 0
FreeWayIsFront =
    (chip : Chip) (rank : ℕ → ℕ) (defect : ChipDefect) (code : List Token) (pair : List Trit)
    → IsFlatChip chip rank defect → IsFreeWay chip defect code (unset_pair chip) pair
    → IsShown chip defect pair → IsFrontBy (search_rules chip defect) chip code pair
