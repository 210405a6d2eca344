-- Spans of joins, as the code keeps them. Only the proofs of the code cite this.
use Rattle.std.specs.Prelude.{ℕ, ◌+◌, ◌≡◌, ◌<◌, ◌⊎◌, ◌↔◌, Bool, true, false, List, length, Some, slice_get}
use Rattle.std.specs.Prelude.{if◌then◌else◌}
use Rattle.std.specs.List.{Contains}
use Rattle.ca_verilog.specs.declared.raw.RawBit.{RawBit}
use Rattle.ca_verilog.specs.declared.raw.RawBit.TheVariants.{Bit, Constant}
use Rattle.ca_verilog.specs.declared.raw.RawSpan.{RawSpan}
use Rattle.ca_wiring.specs.declared.joined.Join.{Join}
use Rattle.ca_wiring.specs.declared.joined.Span.{Span}
use Rattle.ca_wiring.specs.code.Joined.{IsWithin}
use Rattle.ca_wiring.specs.Wiring.{wire_of}

-- the wire so far to the right, on a side that moves
abbrev pub wire_after : ℕ → Bool → ℕ → ℕ
wire_after wire moves step = if moves then wire + step else wire

-- a join of the span, so far to the right of the first
abbrev pub join_at : Span → ℕ → Join
join_at span step = record {
  left = wire_after span.left span.left_moves step;
  right = wire_after span.right span.right_moves step;
}

-- all joins of the span are of this many wires
abbrev pub IsSpanWithin : ℕ → Span → Type 0
IsSpanWithin wires span = (step : ℕ) → step < span.count → IsWithin wires (join_at span step)

-- the join is one of the first spans'
pub record IsAmongFirst (spans : List Span) (first : ℕ) (join : Join) : Type 0 where
  pub place : ℕ
  pub span : Span
  pub step : ℕ
  pub before : place < first
  pub at : slice_get spans place ≡ Some span
  pub within : step < span.count
  pub same : join_at span step ≡ join

-- the list has the joins of the spans, and no others
pub record AreJoinsOf (spans : List Span) (joins : List Join) : Type 0 where
  pub each : (join : Join) → Contains joins join → IsAmongFirst spans (length spans) join
  pub all : (join : Join) → IsAmongFirst spans (length spans) join → Contains joins join

-- a constant doesn't move
abbrev pub is_moving : RawBit → Bool
is_moving (Bit number) = true
is_moving (Constant value) = false

-- the span over wires, where this many bits are declared
abbrev pub span_of : ℕ → RawSpan → Span
span_of bits raw = record {
  left = wire_of bits raw.left;
  right = wire_of bits raw.right;
  left_moves = is_moving raw.left;
  right_moves = is_moving raw.right;
  count = raw.count;
}

-- the span was added, if it wasn't there
abbrev pub IsWith : Span → List Span → List Span → Type 0
IsWith span old new = (other : Span) → Contains new other ↔ (Contains old other ⊎ (span ≡ other))

-- it is one of the first spans of a netlist
pub record IsOneOf (bits : ℕ) (raws : List RawSpan) (first : ℕ) (span : Span) : Type 0 where
  pub place : ℕ
  pub raw : RawSpan
  pub before : place < first
  pub at : slice_get raws place ≡ Some raw
  pub same : span_of bits raw ≡ span

-- the list has the first spans of a netlist, and no others
abbrev pub AreSpansOf : ℕ → List RawSpan → ℕ → List Span → Type 0
AreSpansOf bits raws first spans = (span : Span) → Contains spans span ↔ IsOneOf bits raws first span
