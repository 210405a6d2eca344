-- Words of the code beside those of `specs/Feeding.antt`. Private functions and proofs cite them.
use Rattle.std.specs.Prelude.{ℕ, ◌≡◌, ◌<◌, ◌↔◌, List, length, Option, Some, IsSomeAnd, slice_get}
use Rattle.std.specs.List.{Contains}
use Rattle.ca_linked.specs.declared.order.SortFault.{SortFault}
use Rattle.ca_linked.specs.declared.order.SortFault.TheVariants.{Loop, NoMemory}
use Rattle.ca_linked.specs.Linked.{Body, LinkedChip, input_nets, gate_outputs, Feeds}
use Rattle.ca_linked.specs.Linked.{IsLibrary}
use Rattle.ca_linked.specs.Order.{IsSimpleLoop}
use Rattle.ca_linked.specs.code.Walk.{IsFeeder}

-- an output pin of the library instance w is on the net
abbrev pub DrivesFromGate : LinkedChip → ℕ → ℕ → Type 0
DrivesFromGate chip w net = IsSomeAnd (slice_get chip.parts w) (λ part. Contains (gate_outputs part.body) net)

-- the library instance that drives the net, if one does
abbrev pub IsGateOn : LinkedChip → ℕ → Option ℕ → Type 0
IsGateOn chip net reported = (w : ℕ) → DrivesFromGate chip w net ↔ (reported ≡ Some w)

-- w drives the net of one of the first input pins
pub record FeedsPin (chip : LinkedChip) (body : Body) (count w : ℕ) : Type 0 where
  pub pin : ℕ
  pub net : ℕ
  pub before : pin < count
  pub at : slice_get (input_nets body) pin ≡ Some net
  pub drives : DrivesFromGate chip w net

-- the list has those that feed u
abbrev pub IsRow : LinkedChip → ℕ → List ℕ → Type 0
IsRow chip u row = (w : ℕ) → Contains row w ↔ Feeds chip w u

-- the first instances have their rows
pub record HaveFeeders (chip : LinkedChip) (count : ℕ) (feeders : List (List ℕ)) : Type 0 where
  pub room : length feeders ≡ count
  pub rows : (u w : ℕ) → u < count → IsFeeder feeders w u ↔ Feeds chip w u

-- the list has the library instances among the first
abbrev pub HasGates : LinkedChip → ℕ → List ℕ → Type 0
HasGates chip count list = (u : ℕ) → Contains list u ↔ ((u < count) × IsLibrary chip u)

-- why there is no order
abbrev pub IsOrderCause : LinkedChip → SortFault → Type 0
IsOrderCause chip (Loop loop) = IsSimpleLoop (Feeds chip) loop
IsOrderCause chip NoMemory = Unit {0}
