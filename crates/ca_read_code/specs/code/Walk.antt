-- What only proofs of code cite: the decisions of a reading, and how they stand to its code.
use Rattle.std.specs.Prelude.{◌≡◌, ◌<◌, ◌↔◌, Bool, true, false, not, cond, List, [], ◌∷◌, length}
use Rattle.ca_net.specs.declared.trit.Trit.{Trit}
use Rattle.ca_net.specs.declared.trit.Trit.TheVariants.{X}
use Rattle.ca_net.specs.State.{value_at}
use Rattle.ca_flat.specs.declared.token.Token.{Token}
use Rattle.ca_flat.specs.Codes.{Reading, At, Ended, unset_pair, with_bit, Reads}
use Rattle.ca_read_code.specs.declared.walk.Decision.{Decision}
use Rattle.ca_read_code.specs.declared.walk.Stride.{Stride}
use Rattle.ca_read_code.specs.declared.walk.Stride.TheVariants.{Falls, Ends, Goes}
use Rattle.ca_read_code.specs.Examined.{Examined}
use Rattle.ca_read_code.specs.CodeEnd.{rules_of}
use Rattle.ca_read_code.specs.code.CodeEnd.{start_of}

-- the pair with the decisions, the oldest of which comes first
unfoldable pub pair_after : List Decision → List Trit → List Trit
pair_after [] pair = pair
pair_after (decision ∷ decisions) pair = pair_after decisions (with_bit pair decision.bit decision.value)

-- the pairs that are still to come: of each first decision the opposite
unfoldable pub later_after : List Decision → List Trit → List (List Trit) → List (List Trit)
later_after [] pair later = later
later_after (decision ∷ decisions) pair later =
    later_after decisions (with_bit pair decision.bit decision.value)
    (cond decision.is_second later (with_bit pair decision.bit (not decision.value) ∷ later))

-- each decision is on a bit that was unset
unfoldable pub AreFresh : List Decision → List Trit → Type 0
AreFresh [] pair = Unit {0}
AreFresh (decision ∷ decisions) pair = (decision.bit < length pair) × (value_at pair decision.bit ≡ X)
    × AreFresh decisions (with_bit pair decision.bit decision.value)

-- the pair in hand is that of the decisions
pub record Follows (examined : Examined) (decisions : List Decision) : Type 0 where
  pub at : examined.pair ≡ pair_after decisions (unset_pair examined.chip)
  pub fresh : AreFresh decisions (unset_pair examined.chip)

-- the pairs that are still to come
abbrev pub still_later : Examined → List Decision → List (List Trit)
still_later examined decisions = later_after decisions (unset_pair examined.chip) []

-- the pair in hand, and those that are still to come
abbrev pub reading_of : Examined → List Decision → Reading
reading_of examined decisions = At examined.pair (still_later examined decisions)

-- whatever comes after the tokens that were read, it is lawful exactly where it is so from here on
abbrev pub IsReadTo : Examined → List Token → List Token → Reading → Type 0
IsReadTo examined code rest here = (to : Reading)
    → Reads (rules_of examined) code (start_of examined) to ↔ Reads (rules_of examined) rest here to

-- after the turn the next pair is in hand
pub record TurnsTo (old new : Examined) (before after : List Decision) : Type 0 where
  pub follows : Follows new after
  pub next : still_later old before ≡ new.pair ∷ still_later new after

-- or none was left
abbrev pub IsTurn : Bool → Examined → Examined → List Decision → List Decision → Type 0
IsTurn true old new before after = TurnsTo old new before after
IsTurn false old new before after = still_later old before ≡ []

-- the token may not stand at the pair, or ends the code's tree, or the reading goes on after it
abbrev pub IsStride : Token → Examined → Examined → List Decision → List Decision → Stride → Type 0
IsStride token old new before after Falls =
    (rest : List Token) (to : Reading) → Reads (rules_of old) (token ∷ rest) (reading_of old before) to → ⊥
IsStride token old new before after Ends = (rest : List Token) (to : Reading)
    → Reads (rules_of old) (token ∷ rest) (reading_of old before) to ↔ Reads (rules_of old) rest Ended to
IsStride token old new before after Goes = Follows new after × ((rest : List Token) (to : Reading)
    → Reads (rules_of old) (token ∷ rest) (reading_of old before) to
    ↔ Reads (rules_of old) rest (reading_of new after) to)
