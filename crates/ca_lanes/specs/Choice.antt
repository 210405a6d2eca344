-- Choices: whether a net may be 0 in a lane, and whether it may be 1.
use Rattle.std.specs.Prelude.{ℕ, Bool, true, false, if◌then◌else◌, List, get_or, map}
use Rattle.ca_net.specs.declared.trit.Trit.{Trit}
use Rattle.ca_net.specs.declared.trit.Trit.TheVariants.{Zero, One, X}
use Rattle.ca_lanes.specs.declared.values.Values.{Values}
use Rattle.ca_lanes.specs.Plane.{lane_of}

-- whether it may be 0, and whether it may be 1
pub record Choice : Type 0 where
  pub zero : Bool
  pub one : Bool

-- neither
abbrev pub no_choice : Choice
no_choice = record { zero = false; one = false }

-- what the value may be
abbrev pub choice_for : Trit → Choice
choice_for Zero = record { zero = true; one = false }
choice_for One = record { zero = false; one = true }
choice_for X = record { zero = true; one = true }

-- the value that may be so: X if both may be
abbrev pub trit_for : Choice → Trit
trit_for choice = if choice.zero then (if choice.one then X else Zero) else (if choice.one then One else X)

-- what values over all lanes may be in one
abbrev pub choice_of : Values → ℕ → Choice
choice_of values lane = record { zero = lane_of values.zero lane; one = lane_of values.one lane }

-- what each net may be in a lane
abbrev pub choices_of : List Values → ℕ → List Choice
choices_of nets lane = map (λ net. choice_of net lane) nets

-- what a net may be; past the list neither
abbrev pub choice_at : List Choice → ℕ → Choice
choice_at choices net = get_or choices net no_choice
