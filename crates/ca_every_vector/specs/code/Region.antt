-- Words of the code: the last values that a few bits of the last vector give.
use Rattle.std.specs.Prelude.{ℕ, ◌+◌, ◌-◌, ◌/◌, ◌%◌, ◌^◌, ◌≡◌, ◌<◌, ◌≤◌, ◌⊎◌, List, length, slice_index}
use Rattle.std.specs.Prelude.{slice_index_or}
use Rattle.std.specs.List.{All, Contains}
use Rattle.ca_net.specs.declared.trit.Trit.{Trit}
use Rattle.ca_net.specs.declared.trit.Trit.TheVariants.{X}
use Rattle.ca_net.specs.State.{value_at}
use Rattle.ca_cell.specs.Row.{digit_value}
use Rattle.ca_flat.specs.Chip.{Chip, outputs_at, output_net, count_of}
use Rattle.ca_every_vector.specs.code.Fixed.{fixed_value}
use Rattle.ca_view.specs.Linked.{IsPlaced}
use Rattle.ca_every_vector.specs.declared.vectors.TheConstants.{MOST_REGION_BITS}
use Rattle.ca_every_vector.specs.declared.regions.Region.{Region}
use Rattle.ca_every_vector.specs.Possible.{Has, IsOfEach}
use Rattle.ca_every_vector.specs.Inside.{AllStayInside, HasAllFrom, HasLastsInside}
use Rattle.ca_every_vector.specs.code.Masks.{mask_at}
use Rattle.ca_every_vector.specs.code.Spread.{IsGiven}

-- the chip input at a place of the list
abbrev pub input_at : List ℕ → ℕ → ℕ
input_at inputs j = slice_index_or inputs j 0

-- these are a few inputs of the chip
pub record AreFewInputs (chip : Chip) (inputs : List ℕ) : Type 0 where
  pub few : length inputs ≤ MOST_REGION_BITS
  pub known : (j : ℕ) → j < length inputs → input_at inputs j < length chip.inputs

-- its digit of a number
abbrev pub digit_for : List ℕ → ℕ → ℕ → Trit
digit_for inputs number j = digit_value (number / 2 ^ (length inputs - 1 - j) % 2)

-- the last bits of these chip inputs are the digits of the number
abbrev pub IsForNumber : Chip → List ℕ → ℕ → List Trit → Type 0
IsForNumber chip inputs number pair =
    (j : ℕ) → j < length inputs
    → value_at pair (length chip.inputs + input_at inputs j) ≡ digit_for inputs number j

-- the net is that of one of these chip inputs
pub record IsInputNet (chip : Chip) (inputs : List ℕ) (net : ℕ) : Type 0 where
  pub place : ℕ
  pub within : place < length inputs
  pub on : slice_index chip.inputs (input_at inputs place) ≡ net

-- the net is an output net of one of these instances
pub record IsPartNet (chip : Chip) (parts : List ℕ) (net : ℕ) : Type 0 where
  pub part : ℕ
  pub output : ℕ
  pub has : Contains parts part
  pub known : part < count_of chip
  pub within : output < outputs_at chip part
  pub on : output_net chip part output ≡ net

-- elsewhere values are known where a constant gives them alone
abbrev pub AreKnownWithin : Chip → List ℕ → List ℕ → List Trit → Type 0
AreKnownWithin chip inputs parts values =
    (net : ℕ) → (value_at values net ≡ fixed_value chip net)
    ⊎ (IsInputNet chip inputs net ⊎ IsPartNet chip parts net)

-- the nets of the first ones of these chip inputs have the digits of the number
abbrev pub HaveDigitsTo : Chip → List ℕ → ℕ → List Trit → ℕ → Type 0
HaveDigitsTo chip inputs number values end =
    (j : ℕ) → j < end
    → value_at values (slice_index chip.inputs (input_at inputs j)) ≡ digit_for inputs number j

-- so do all
abbrev pub HaveDigits : Chip → List ℕ → ℕ → List Trit → Type 0
HaveDigits chip inputs number values = HaveDigitsTo chip inputs number values (length inputs)

-- the first output nets of the instance are unknown
abbrev pub AreUnknownOut : Chip → List Trit → ℕ → ℕ → Type 0
AreUnknownOut chip values w end =
    (output : ℕ) → output < end → value_at values (output_net chip w output) ≡ X

-- the instance is given by its cell, or its output nets are unknown
abbrev pub IsGivenOrUnknown : Chip → List Trit → ℕ → Type 0
IsGivenOrUnknown chip values w =
    IsGiven chip w (value_at values) ⊎ AreUnknownOut chip values w (outputs_at chip w)

-- the output nets of the instance are in the list
abbrev pub IsOutIn : Chip → List ℕ → ℕ → Type 0
IsOutIn chip nets w = (output : ℕ) → output < outputs_at chip w → Contains nets (output_net chip w output)

-- so are the nets of the first ones of these chip inputs
abbrev pub AreInputsIn : Chip → List ℕ → List ℕ → ℕ → Type 0
AreInputsIn chip inputs nets end =
    (j : ℕ) → j < end → Contains nets (slice_index chip.inputs (input_at inputs j))

-- what is in the one list is in the other
abbrev pub IsLonger : List ℕ → List ℕ → Type 0
IsLonger old new = (n : ℕ) → Contains old n → Contains new n

-- the nets of these inputs and instances are in the list
pub record AreNetsIn (chip : Chip) (inputs parts nets : List ℕ) : Type 0 where
  pub known : All (λ net. net < length chip.nets) nets
  pub inputs_in : AreInputsIn chip inputs nets (length inputs)
  pub parts_in : All (IsOutIn chip nets) parts

-- a region of the chip: few inputs, instances with a place, their nets, and some of the instances
pub record IsRegion (chip : Chip) (place_of : ℕ → ℕ) (region : Region) : Type 0 where
  pub inputs_are : AreFewInputs chip region.inputs.items
  pub parts_placed : All (IsPlaced chip place_of) region.parts.items
  pub nets_are : AreNetsIn chip region.inputs.items region.parts.items region.nets.items
  pub fresh_placed : All (IsPlaced chip place_of) region.fresh.items

-- the two lists have the same values but at listed nets
abbrev pub AreSameOutside : List Trit → List Trit → List ℕ → Type 0
AreSameOutside values others nets =
    (net : ℕ) → (value_at others net ≡ value_at values net) ⊎ Contains nets net

-- the mask has each number of a vector
abbrev pub IsFull : ℕ → Type 0
IsFull mask = (number : ℕ) → number < 64 → Has mask number

-- of the instance u the mask has the last vectors that matter, for these values
abbrev pub HasLastsAt : Chip → (ℕ → Trit) → ℕ → ℕ → Type 0
HasLastsAt chip values u mask = AllStayInside chip u values ⊎ HasAllFrom chip u values mask

-- so it has for each pair with the digits of the number
abbrev pub IsTriedAt : Chip → List ℕ → ℕ → List ℕ → ℕ → Type 0
IsTriedAt chip inputs number masks u =
    (pair : List Trit) → IsForNumber chip inputs number pair
    → HasLastsInside chip u (mask_at masks u) pair

-- so it has for each number below one
abbrev pub IsTriedTo : Chip → List ℕ → ℕ → List ℕ → ℕ → Type 0
IsTriedTo chip inputs end masks u = (number : ℕ) → number < end → IsTriedAt chip inputs number masks u

-- all was tried for the instance u
abbrev pub IsTried : Chip → List ℕ → ℕ → Type 0
IsTried chip masks u = IsOfEach chip (HasLastsInside chip u (mask_at masks u))
