-- What only proofs of code cite: one instance evaluated in a lane.
use Rattle.std.specs.Prelude.{ℕ, ◌^◌, ◌≡◌, ◌≢◌, ◌<◌, Bool, List, map, take}
use Rattle.ca_net.specs.declared.trit.Trit.{Trit}
use Rattle.ca_lanes.specs.Choice.{Choice, choice_at}
use Rattle.ca_lanes.specs.code.Allowed.{allowed_by}
use Rattle.ca_lanes.specs.GoodRows.{good_at}
use Rattle.ca_lanes.specs.code.Given.{given_by, given_by_rows}
use Rattle.ca_lanes.specs.Netlist.{output_of}

-- what the nets of the pins may be
abbrev pub pin_choices : List Choice → List ℕ → List Choice
pin_choices choices nets = map (choice_at choices) nets

-- the masks of the vectors of the input pins
abbrev pub masks_for : Bool → List Choice → ℕ → List ℕ → List Bool
masks_for loaded choices inputs pins = allowed_by loaded (pin_choices choices (take inputs pins))

-- what the rows of one vector give at an output
abbrev pub first_given : List Trit → ℕ → ℕ → List ℕ → Bool → List Choice → ℕ → Choice
first_given values inputs outputs pins loaded firsts output =
    given_by (masks_for loaded firsts inputs pins)
    (λ vector. good_at values (2 ^ inputs) outputs vector vector output) (2 ^ inputs)

-- what all rows give there
abbrev pub last_given : List Trit → ℕ → ℕ → List ℕ → Bool → List Choice → List Choice → ℕ → Choice
last_given values inputs outputs pins loaded firsts lasts output =
    given_by_rows (masks_for loaded firsts inputs pins) (masks_for loaded lasts inputs pins)
    (λ first last. good_at values (2 ^ inputs) outputs first last output) (2 ^ inputs) (2 ^ inputs)

-- the nets of the first outputs have what the rows give, and no other net is changed
pub record IsEvaluated (values : List Trit) (inputs outputs : ℕ) (pins : List ℕ) (loaded : Bool) (done : ℕ)
    (firsts lasts new_firsts new_lasts : List Choice) : Type 0 where
  pub first : (output : ℕ) → output < done → choice_at new_firsts (output_of inputs pins output)
      ≡ first_given values inputs outputs pins loaded firsts output
  pub last : (output : ℕ) → output < done → choice_at new_lasts (output_of inputs pins output)
      ≡ last_given values inputs outputs pins loaded firsts lasts output
  pub other_first : (net : ℕ) → ((output : ℕ) → output < done → net ≢ output_of inputs pins output)
      → choice_at new_firsts net ≡ choice_at firsts net
  pub other_last : (net : ℕ) → ((output : ℕ) → output < done → net ≢ output_of inputs pins output)
      → choice_at new_lasts net ≡ choice_at lasts net
