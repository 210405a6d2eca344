-- What drives each net of a chip: the first two, in order.
use Rattle.std.specs.Prelude.{ℕ, ◌^◌, ◌≡◌, ◌<◌, ◌⊎◌, Bool, true, false, List, length, Option, Some, None}
use Rattle.std.specs.Prelude.{IsSome, IsNone, slice_index_or}
use Rattle.std.specs.List.{All}
use Rattle.ca_linked.specs.declared.drivers.Sources.{Sources}
use Rattle.ca_linked.specs.Linked.{Source, FromPort, FromConstant, FromPin, LinkedChip, net_count, input_nets}
use Rattle.ca_linked.specs.Linked.{output_nets, IsBody}

-- the order of the constants
abbrev pub constant_place : Bool → ℕ
constant_place false = 0
constant_place true = 1

-- the first of the two comes before the second: port bits in header order, the constants 0 and 1, and output
-- pins in netlist and pin order
abbrev pub ComesBefore : Source → Source → Type 0
ComesBefore (FromPort a) (FromPort b) = a < b
ComesBefore (FromPort a) (FromConstant b) = Unit {0}
ComesBefore (FromPort a) (FromPin u pin) = Unit {0}
ComesBefore (FromConstant a) (FromPort b) = ⊥
ComesBefore (FromConstant a) (FromConstant b) = constant_place a < constant_place b
ComesBefore (FromConstant a) (FromPin u pin) = Unit {0}
ComesBefore (FromPin u pin) (FromPort b) = ⊥
ComesBefore (FromPin u pin) (FromConstant b) = ⊥
ComesBefore (FromPin u pin) (FromPin w other) = (u < w) ⊎ ((u ≡ w) × (pin < other))

-- this one has the property, and no other
pub record IsOnly (Has : Source → Type 0) (one : Source) : Type 0 where
  pub has : Has one
  pub none_other : (other : Source) → Has other → other ≡ one

-- these two are the first that have the property
pub record AreFirstTwo (Has : Source → Type 0) (one two : Source) : Type 0 where
  pub one_has : Has one
  pub two_has : Has two
  pub in_order : ComesBefore one two
  pub none_before : (other : Source) → Has other → ComesBefore other two → other ≡ one

-- none has the property, one has it, or these are the first two
abbrev pub AreFirst : (Source → Type 0) → Option Source → Option Source → Type 0
AreFirst Has None None = (other : Source) → Has other → ⊥
AreFirst Has None (Some two) = ⊥
AreFirst Has (Some one) None = IsOnly Has one
AreFirst Has (Some one) (Some two) = AreFirstTwo Has one two

-- what is past the last net
abbrev pub no_sources : Sources
no_sources = record { first = None; second = None }

-- the first two of a net
abbrev pub sources_at : List Sources → ℕ → Sources
sources_at table net = slice_index_or table net no_sources

-- the instance whose output pin it is
abbrev pub instance_of : Source → Option ℕ
instance_of (FromPort p) = None
instance_of (FromConstant value) = None
instance_of (FromPin u pin) = Some u

-- the instance whose output pin the first is
abbrev pub first_instance : Option Source → Option ℕ
first_instance None = None
first_instance (Some source) = instance_of source

-- one drives the net, and no other
pub record IsSingle (sources : Sources) : Type 0 where
  pub some : IsSome sources.first
  pub no_second : IsNone sources.second

-- the pins, ports and constants are on nets, and all are few
pub record IsDrafted (chip : LinkedChip) : Type 0 where
  pub bodies : All (λ part. IsBody chip.cells part.body) chip.parts
  pub inputs_on_nets : All (λ part. All (λ net. net < net_count chip) (input_nets part.body)) chip.parts
  pub outputs_on_nets : All (λ part. All (λ net. net < net_count chip) (output_nets part.body)) chip.parts
  pub ports_on_nets : All (λ port. port.net < net_count chip) chip.ports
  pub zero_on_net : (net : ℕ) → chip.zero ≡ Some net → net < net_count chip
  pub one_on_net : (net : ℕ) → chip.one ≡ Some net → net < net_count chip
  pub few_pins : All (λ part. length (output_nets part.body) < 2 ^ 32) chip.parts
  pub few_parts : length chip.parts < 2 ^ 32
  pub few_ports : length chip.ports < 2 ^ 32
  pub few_nets : net_count chip < 2 ^ 32
