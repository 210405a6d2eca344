-- What only proofs of code cite: the decisions of a search, and how they relate to its code.
use Rattle.std.specs.Prelude.{ℕ, ◌≡◌, ◌<◌, ◌≤◌, Bool, true, false, not, cond, List, [], ◌∷◌, length}
use Rattle.ca_net.specs.declared.trit.Trit.{Trit}
use Rattle.ca_net.specs.declared.trit.Trit.TheVariants.{X}
use Rattle.ca_net.specs.State.{value_at}
use Rattle.ca_flat.specs.declared.token.Token.{Token}
use Rattle.ca_flat.specs.Pair.{bit_count}
use Rattle.ca_flat.specs.Codes.{At, unset_pair, with_bit, Reads, branch_count, IsWholeBy}
use Rattle.ca_search.specs.declared.trail.Decision.{Decision}
use Rattle.ca_search.specs.declared.walk.Move.{Move}
use Rattle.ca_search.specs.declared.walk.Move.TheVariants.{Stop, Leave, Branch}
use Rattle.ca_search.specs.declared.trail.Trail.{Trail}
use Rattle.ca_code.specs.SearchRules.{rules_for}
use Rattle.ca_search.specs.Judged.{Judged, IsShownFor}
use Rattle.ca_search.specs.code.Judged.{MayLeaveHere, MayDecideHere}
use Rattle.ca_code.specs.Tokens.{tokens_of}
use Rattle.ca_search.specs.Outcome.{Searched}

-- the pair with the decisions, the oldest of which comes first
unfoldable pub pair_after : List Decision → List Trit → List Trit
pair_after [] pair = pair
pair_after (decision ∷ decisions) pair = pair_after decisions (with_bit pair decision.bit decision.value)

-- the pairs that are still to come: of each first decision the opposite
unfoldable pub later_after : List Decision → List Trit → List (List Trit) → List (List Trit)
later_after [] pair later = later
later_after (decision ∷ decisions) pair later =
    later_after decisions (with_bit pair decision.bit decision.value)
    (cond decision.is_second later (with_bit pair decision.bit (not decision.value) ∷ later))

-- each decision is on a bit that was unset
unfoldable pub AreFresh : List Decision → List Trit → Type 0
AreFresh [] pair = Unit {0}
AreFresh (decision ∷ decisions) pair = (decision.bit < length pair) × (value_at pair decision.bit ≡ X)
    × AreFresh decisions (with_bit pair decision.bit decision.value)

-- the pair in hand is that of the decisions
pub record Follows (judged : Judged) (decisions : List Decision) : Type 0 where
  pub at : judged.pair ≡ pair_after decisions (unset_pair judged.chip)
  pub fresh : AreFresh decisions (unset_pair judged.chip)

-- the pairs that are still to come
abbrev pub still_later : Judged → List Decision → List (List Trit)
still_later judged decisions = later_after decisions (unset_pair judged.chip) []

-- the code is a front whose reading is at the pair in hand, with the pairs that the decisions leave
pub record Stands (judged : Judged) (code : List Token) (decisions : List Decision) (branches budget : ℕ)
    : Type 0 where
  pub follows : Follows judged decisions
  pub reads : Reads (rules_for judged.chip judged.aim) code (At (unset_pair judged.chip) [])
      (At judged.pair (still_later judged decisions))
  pub counted : branches ≡ branch_count code
  pub within : branches ≤ budget
  pub few : length decisions ≤ branches

-- so do the fields of a trail
pub record TrailStands (judged : Judged) (trail : Trail) : Type 0 where
  pub stands : Stands judged (tokens_of trail.numbers.items) trail.decisions.items trail.branches trail.budget
  pub bits : trail.bits ≡ bit_count judged.chip

-- there are no tokens and no decisions
pub record IsEmptied (judged : Judged) (trail : Trail) : Type 0 where
  pub numbers : trail.numbers.items ≡ []
  pub decisions : trail.decisions.items ≡ []
  pub branches : trail.branches ≡ 0
  pub bits : trail.bits ≡ bit_count judged.chip

-- the budget is the same, and the number of pattern bits
pub record IsSameRoom (old new : Trail) : Type 0 where
  pub budget : new.budget ≡ old.budget
  pub bits : new.bits ≡ old.bits

-- what to do at a pair: stop where it is shown, leave it where a leaf is allowed, or decide a bit
abbrev pub IsMove : Judged → Move → Type 0
IsMove judged Stop = IsShownFor judged.chip judged.aim judged.pair
IsMove judged Leave = MayLeaveHere judged
IsMove judged (Branch bit first) = MayDecideHere judged bit

-- after the turn the next pair is in hand
pub record TurnsTo (old new : Judged) (before after : List Decision) : Type 0 where
  pub follows : Follows new after
  pub next : still_later old before ≡ new.pair ∷ still_later new after

-- or none was left
abbrev pub IsTurn : Bool → Judged → Judged → List Decision → List Decision → Type 0
IsTurn true old new before after = TurnsTo old new before after
IsTurn false old new before after = still_later old before ≡ []

-- after a leaf the search is at the next pair, or the code is whole
abbrev pub IsLeft : Bool → Judged → Trail → Type 0
IsLeft true new trail = TrailStands new trail
IsLeft false new trail = IsWholeBy (rules_for new.chip new.aim) new.chip (tokens_of trail.numbers.items)

-- what contracts see of a search
abbrev pub searched_of : Trail → Searched
searched_of trail = record {
  budget = trail.budget;
  code = tokens_of trail.numbers.items;
}
