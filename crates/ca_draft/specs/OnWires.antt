-- Instances and port bits before the nets are numbered: where a net will be, the number of the wire is. Only
-- the proofs of the code cite this.
use Rattle.std.specs.Prelude.{ℕ, ◌≡◌, ◌<◌, ◌||◌, ◌&&◌, Bool, false, List}
use Rattle.std.specs.Prelude.{[], ◌∷◌, length, take}
use Rattle.std.specs.Prelude.{slice_index, nat_lt, if◌then◌else◌}
use mathlib.Core.Bool.{beq}
use Rattle.ca_verilog.specs.declared.raw.RawBit.{RawBit}
use Rattle.ca_verilog.specs.declared.raw.RawBit.TheVariants.{Bit, Constant}
use Rattle.ca_verilog.specs.declared.raw.RawBus.{RawBus}
use Rattle.ca_verilog.specs.declared.raw.RawSpan.{RawSpan}
use Rattle.ca_verilog.specs.IsNetlist.{bit_count}

-- for each of the first names the number of its first bit
pub record AreFirsts (buses : List RawBus) (first : ℕ) (firsts : List ℕ) : Type 0 where
  pub count : length firsts ≡ first
  pub at : (place : ℕ) → place < first → slice_index firsts place ≡ bit_count (take place buses)

-- the bit is this constant
abbrev pub is_constant : Bool → RawBit → Bool
is_constant value (Bit number) = false
is_constant value (Constant other) = beq value other

-- a side of the span is this constant
abbrev pub has_constant : Bool → RawSpan → Bool
has_constant value span = nat_lt 0 span.count && (is_constant value span.left || is_constant value span.right)

-- the wire of a constant, if the constant is named
abbrev pub constant_wires : ℕ → Bool → List ℕ
constant_wires wire is_named = if is_named then wire ∷ [] else []
