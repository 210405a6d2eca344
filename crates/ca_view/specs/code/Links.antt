-- Links between nets, and the pins that give them.
use Rattle.std.specs.Prelude.{ℕ, ◌≡◌, ◌<◌, ◌⊎◌, ◌↔◌, List, length}
use Rattle.std.specs.List.{Contains}
use Rattle.ca_flat.specs.Chip.{Chip}
use Rattle.ca_flat.specs.Chain.{Feeds}
use Rattle.ca_view.specs.NetLists.{linked_from}
use Rattle.ca_view.specs.Pins.{Pins}
use Rattle.ca_view.specs.code.Pins.{inputs_of, outputs_of}

-- input pins for output pins
abbrev pub turned : Pins → Pins
turned pins = record pins { inputs = pins.outputs; outputs = pins.inputs }

-- these links have come to the old ones
pub record Grows (is_new : ℕ → ℕ → Type 0) (old new : List (List ℕ)) : Type 0 where
  pub count : length new ≡ length old
  pub links : (before net : ℕ) → Contains (linked_from new before) net
      ↔ (Contains (linked_from old before) net ⊎ is_new before net)

-- the link from the one net to the other
abbrev pub IsLink : ℕ → ℕ → ℕ → ℕ → Type 0
IsLink from to before net = (from ≡ before) × (to ≡ net)

-- a link from the net to one of these
abbrev pub IsLinkToEach : ℕ → List ℕ → ℕ → ℕ → Type 0
IsLinkToEach from tos before net = (from ≡ before) × Contains tos net

-- a link from one of the one nets to one of the others
abbrev pub IsLinkOfPins : List ℕ → List ℕ → ℕ → ℕ → Type 0
IsLinkOfPins froms tos before net = Contains froms before × Contains tos net

-- one of the first instances has the one net on an input pin and the other on an output pin
pub record IsLinkOfFirst (pins : Pins) (count before net : ℕ) : Type 0 where
  pub instance : ℕ
  pub known : instance < count
  pub link : IsLinkOfPins (inputs_of pins instance) (outputs_of pins instance) before net

-- the links are exactly those of the instances
pub record LinksPins (pins : Pins) (table : List (List ℕ)) : Type 0 where
  pub counted : length table ≡ pins.nets
  pub links : (before net : ℕ) → Contains (linked_from table before) net
      ↔ IsLinkOfFirst pins pins.count before net

-- the tables of the links onward and back have a link exactly where a net feeds the other
pub record AreFeeds (chip : Chip) (onward back : List (List ℕ)) : Type 0 where
  pub feeds : (before net : ℕ) → Contains (linked_from onward before) net ↔ Feeds chip before net
  pub fed : (net before : ℕ) → Contains (linked_from back net) before ↔ Feeds chip before net
