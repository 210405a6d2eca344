-- A pair that is loaded in a lane.
use Rattle.std.specs.Prelude.{ℕ, ◌≡◌, ◌<◌, List, length, map}
use Rattle.ca_net.specs.declared.trit.Trit.{Trit}
use Rattle.ca_flat.specs.Chip.{Chip}
use Rattle.ca_flat.specs.TwoFrame.{AreTwoFrame}
use Rattle.ca_lanes.specs.Choice.{Choice, choice_for, choice_at, trit_for}

-- the values that the nets have in a lane
abbrev pub trits_for : List Choice → List Trit
trits_for choices = map trit_for choices

-- the choice is that of a value
abbrev pub IsOfTrit : Choice → Type 0
IsOfTrit choice = choice_for (trit_for choice) ≡ choice

-- the nets have the plain two-frame values of the pair, and what each net may be is what a value may be
pub record IsLoaded (chip : Chip) (pair : List Trit) (firsts lasts : List Choice) : Type 0 where
  pub two_frame : AreTwoFrame chip pair (trits_for firsts) (trits_for lasts)
  pub first_is : (net : ℕ) → net < length chip.nets → IsOfTrit (choice_at firsts net)
  pub last_is : (net : ℕ) → net < length chip.nets → IsOfTrit (choice_at lasts net)
