-- What only proofs of code cite: the nets that are set before any instance is evaluated.
use Rattle.std.specs.Prelude.{ℕ, zero, suc, ◌+◌, ◌==◌, if◌then◌else◌}
use Rattle.std.specs.Prelude.{Bool, false, List, [], ◌∷◌, get_or}
use Rattle.ca_flat.specs.Codes.{bit_trit}
use Rattle.ca_lanes.specs.declared.constants.Constant.{Constant}
use Rattle.ca_lanes.specs.Choice.{Choice, no_choice, choice_for}
use Rattle.ca_lanes.specs.code.Choice.{choice_with, choice_over, unknown}

-- what the bit at a place may be in a lane; past the last pair neither
abbrev pub bit_choice : List (List Bool) → ℕ → ℕ → Choice
bit_choice [] place lane = no_choice
bit_choice (pair ∷ pairs) place zero = choice_for (bit_trit (get_or pair place false))
bit_choice (pair ∷ pairs) place (suc lane) = bit_choice pairs place lane

-- what a net may be in a lane where these inputs, whose bits begin at `bit`, are set; if it is none of them,
-- what it was
abbrev pub input_choice : List ℕ → List (List Bool) → ℕ → ℕ → ℕ → Choice → Choice
input_choice [] pairs bit lane net other = other
input_choice (input ∷ inputs) pairs bit lane net other =
    if net == input then bit_choice pairs bit lane
    else input_choice inputs pairs (bit + 1) lane net other

-- what a net may be in a lane where these constants are set; if it is none of them, what it was
abbrev pub constant_choice : List Constant → Bool → ℕ → Choice → Choice
constant_choice [] loaded net other = other
constant_choice (constant ∷ constants) loaded net other =
    if net == constant.net then choice_with no_choice loaded constant.value
    else constant_choice constants loaded net other

-- what a net may be in a lane where inputs and constants are set, and all other nets are unknown
abbrev pub set_choice : List ℕ → List Constant → List (List Bool) → ℕ → Bool → ℕ → ℕ → Choice
set_choice inputs constants pairs bit loaded lane net =
    constant_choice constants loaded net (input_choice inputs pairs bit lane net (choice_over loaded unknown))
