-- A chip of one inverter of which nothing is observed: its defects can't be detected, and a leaf is a whole
-- code.
use Rattle.std.specs.Prelude.{ℕ, false, List, [], ◌∷◌}
use Rattle.ca_net.specs.declared.trit.Trit.{Trit}
use Rattle.ca_flat.specs.declared.token.Token.{Token}
use Rattle.ca_flat.specs.declared.token.Token.TheVariants.{Branch, Leaf}
use Rattle.ca_flat.specs.Chip.{Chip}
use Rattle.ca_flat.specs.Pair.{IsSettledPair, IsRuledOut}
use Rattle.ca_flat.specs.Chain.{IsSupportBit}
use Rattle.ca_flat.specs.Codes.{unset_pair, IsWholeBy, IsFrontBy, IsSpentBy, IsWholeCode, IsFront}
use Rattle.ca_flat.specs.Codes.{IsSpentCode}
use Rattle.ca_flat.specs.CheckedCode.{checked_rules}
use Rattle.ca_flat_tests.specs.Inverter.{inverter_chip, open_gate}

-- the chip of one inverter, without its observed output
abbrev pub blind_chip : Chip
blind_chip = record {
  nets = inverter_chip.nets;
  instances = inverter_chip.instances;
  inputs = inverter_chip.inputs;
  constants = [];
  outputs = [];
}

-- Every pair is settled and ruled out, and no bit is in the support. So a leaf is a whole code, and a checked
-- one; before it the reading is at the pair without bits, and after it at none; no branch is possible, and no
-- code is spent.
pub record BlindIsRuledOut : Type 0 where
  pub settled : (pair : List Trit) → IsSettledPair blind_chip open_gate pair
  pub ruled_out : (pair : List Trit) → IsRuledOut blind_chip open_gate pair
  pub no_support : (bit : ℕ) → IsSupportBit blind_chip open_gate bit → ⊥
  pub whole : IsWholeCode blind_chip open_gate (Leaf ∷ [])
  pub checked_whole : IsWholeBy (checked_rules blind_chip open_gate) blind_chip (Leaf ∷ [])
  pub front : IsFront blind_chip open_gate [] (unset_pair blind_chip)
  pub checked_front : IsFrontBy (checked_rules blind_chip open_gate) blind_chip [] (unset_pair blind_chip)
  pub nothing_after : (pair : List Trit) → IsFront blind_chip open_gate (Leaf ∷ []) pair → ⊥
  pub two_leaves : IsWholeCode blind_chip open_gate (Leaf ∷ Leaf ∷ []) → ⊥
  pub no_branch : (pair : List Trit) → IsFront blind_chip open_gate (Branch 0 false ∷ []) pair → ⊥
  pub never_spent : (budget : ℕ) (code : List Token) → IsSpentCode blind_chip open_gate budget code → ⊥
  pub never_spent_checked : (budget : ℕ) (code : List Token)
      → IsSpentBy (checked_rules blind_chip open_gate) blind_chip budget code → ⊥
