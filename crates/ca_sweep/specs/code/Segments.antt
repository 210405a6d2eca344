-- What only proofs of code cite: sweeps in parts. Where a single instance is due, a sweep is cut: what comes
-- after is what comes where that instance's outputs are flipped so.
use Rattle.std.specs.Prelude.{ℕ, ◌+◌, ◌*◌, ◌≡◌, ◌<◌, ◌≤◌, ◌⊎◌, Bool, List, length, slice_index_or, Option}
use Rattle.std.specs.Prelude.{None, Some}
use Rattle.ca_net.specs.declared.trit.Trit.{Trit}
use Rattle.ca_net.specs.declared.node.NodeKind.TheVariants.{Input}
use Rattle.ca_flat.specs.Chip.{Chip, inputs_at, outputs_at, net_of, output_net, count_of, net_kind}
use Rattle.ca_flips.specs.Flips.{KeepsGood, IsEvaluated, AreSwept}
use Rattle.ca_view.specs.Linked.{IsPlaced}
use Rattle.ca_sweep.specs.declared.seen.Flips.{Flips}
use Rattle.ca_sweep.specs.declared.segments.Cut as cut
use Rattle.ca_sweep.specs.declared.run.Halt.{Halt}
use Rattle.ca_sweep.specs.declared.run.Halt.TheVariants.{Stuck, Done, Cut}
use Rattle.ca_sweep.specs.declared.segments.Aged.{Aged}
use Rattle.ca_sweep.specs.declared.segments.Segment.{Segment}
use Rattle.ca_sweep.specs.declared.segments.Segments.{Segments}
use Rattle.ca_sweep.specs.Seen.{flipped_outputs, flipped_if, IsOppositeAt, AreNotOppositeBefore}
use Rattle.ca_sweep.specs.code.Changes.{IsOutputBelow}
use Rattle.ca_sweep.specs.code.Faulty.{code_of}

-- the net is on an output pin of u or of an instance with a later place
pub record IsBehind (chip : Chip) (place_of : ℕ → ℕ) (u net : ℕ) : Type 0 where
  pub instance : ℕ
  pub known : instance < count_of chip
  pub onward : (instance ≡ u) ⊎ (place_of u < place_of instance)
  pub out : IsOutputBelow chip instance (outputs_at chip instance) net

-- the number is that of the first of the nets at which the values are opposite, or that of the nets
pub record IsFirstNumber (goods values : ℕ → Trit) (nets : List ℕ) (number : ℕ) : Type 0 where
  pub within : number ≤ length nets
  pub here : number < length nets → IsOppositeAt goods values nets number
  pub before : AreNotOppositeBefore goods values nets number

-- values that are found an instance at a time where output pins of u are flipped, and the number of the first
-- output at which they are opposite
pub record IsSweptFrom (chip : Chip) (place_of : ℕ → ℕ) (goods : ℕ → Trit) (u : ℕ) (flips : Flips)
    (number : ℕ) : Type 0 where
  pub values : ℕ → Trit
  pub swept : AreSwept chip u goods (flipped_outputs chip u goods flips) values
  pub changed : (net : ℕ) → (values net ≡ goods net) ⊎ IsBehind chip place_of u net
  pub first : IsFirstNumber goods values chip.outputs number

-- values that are found so up to the instance w, whose outputs are the only ones that instances after it read
-- with other values than the good ones
pub record IsSweptUntil (chip : Chip) (place_of : ℕ → ℕ) (goods : ℕ → Trit) (u : ℕ) (flips : Flips) (w : ℕ)
    (values : ℕ → Trit) : Type 0 where
  pub placed : IsPlaced chip place_of w
  pub onward : place_of u < place_of w
  pub inputs : (net : ℕ) → net < length chip.nets → net_kind chip net ≡ Input → values net ≡ goods net
  pub given : (output : ℕ) → output < outputs_at chip u
      → values (output_net chip u output) ≡ flipped_outputs chip u goods flips output
  pub before : (v : ℕ) → v < count_of chip → (v ≡ u → ⊥) → place_of v ≤ place_of w
      → KeepsGood chip v goods values ⊎ IsEvaluated chip v values
  pub ahead : (v output : ℕ) → v < count_of chip → (v ≡ u → ⊥) → place_of w < place_of v
      → output < outputs_at chip v → values (output_net chip v output) ≡ goods (output_net chip v output)
  pub waiting : (v pin : ℕ) → v < count_of chip → (v ≡ u → ⊥) → place_of w < place_of v
      → pin < inputs_at chip v → (values (net_of chip v pin) ≡ goods (net_of chip v pin))
      ⊎ IsOutputBelow chip w (outputs_at chip w) (net_of chip v pin)
  pub changed : (net : ℕ) → (values net ≡ goods net) ⊎ IsBehind chip place_of u net

-- each output net of w has the good value, or its opposite where the pin is flipped
abbrev pub AreFlippedAt : Chip → (ℕ → Trit) → ℕ → Flips → (ℕ → Trit) → Type 0
AreFlippedAt chip goods w flips values =
    (output : ℕ) → output < outputs_at chip w
    → values (output_net chip w output) ≡ flipped_outputs chip w goods flips output

-- so is that of one output pin, where it is there
abbrev pub IsFlippedOrGood : Chip → (ℕ → Trit) → ℕ → (ℕ → Trit) → ℕ → Bool → Type 0
IsFlippedOrGood chip goods w values output flipped =
    output < outputs_at chip w
    → values (output_net chip w output) ≡ flipped_if flipped (goods (output_net chip w output))

-- a sweep has halted so with these values
abbrev pub IsHalt : Chip → (ℕ → ℕ) → (ℕ → Trit) → ℕ → Flips → (ℕ → Trit) → Halt → Type 0
IsHalt chip place_of goods u flips values Stuck = Unit {0}
IsHalt chip place_of goods u flips values Done =
    AreSwept chip u goods (flipped_outputs chip u goods flips) values
    × ((net : ℕ) → (values net ≡ goods net) ⊎ IsBehind chip place_of u net)
IsHalt chip place_of goods u flips values (Cut cut) =
    IsSweptUntil chip place_of goods u flips cut.instance values
    × AreFlippedAt chip goods cut.instance cut.flips values

-- so far as a sweep is cut at w, where these output pins are flipped
pub record IsCutAt (chip : Chip) (place_of : ℕ → ℕ) (goods : ℕ → Trit) (u : ℕ) (flips : Flips) (number w : ℕ)
    (onward : Flips) : Type 0 where
  pub values : ℕ → Trit
  pub until : IsSweptUntil chip place_of goods u flips w values
  pub cut : AreFlippedAt chip goods w onward values
  pub first : IsFirstNumber goods values chip.outputs number

-- what a part of a sweep says
abbrev pub IsPartTo : Chip → (ℕ → ℕ) → (ℕ → Trit) → ℕ → Flips → ℕ → Option cut.Cut → Type 0
IsPartTo chip place_of goods u flips number None = IsSweptFrom chip place_of goods u flips number
IsPartTo chip place_of goods u flips number (Some cut) =
    IsCutAt chip place_of goods u flips number cut.instance cut.flips

abbrev pub IsSegment : Chip → (ℕ → ℕ) → (ℕ → Trit) → ℕ → Flips → Segment → Type 0
IsSegment chip place_of goods u flips segment =
    IsPartTo chip place_of goods u flips segment.first segment.next

-- no part is of an age to come
abbrev pub AreAges : List (Option Aged) → ℕ → Type 0
AreAges slots age =
    (place : ℕ) (aged : Aged) → slice_index_or slots place None ≡ Some aged → aged.age ≤ age

-- the slot has this part, and it is of this age
pub record IsOfAge (slot : Option Aged) (age : ℕ) (segment : Segment) : Type 0 where
  pub aged : Aged
  pub slot_is : slot ≡ Some aged
  pub age_is : aged.age ≡ age
  pub segment_is : aged.segment ≡ segment

-- no part is of an age to come, and those of this age say what is so
pub record AreSegments (chip : Chip) (place_of : ℕ → ℕ) (goods : ℕ → Trit) (segments : Segments)
    : Type 0 where
  pub room : length segments.slots.items ≡ 4 * count_of chip
  pub ages : AreAges segments.slots.items segments.age
  pub each : (u : ℕ) (flips : Flips) (segment : Segment)
      → IsOfAge (slice_index_or segments.slots.items (4 * u + code_of flips.first flips.second) None)
      segments.age segment
      → IsSegment chip place_of goods u flips segment
