-- Numbers of bits.
use Rattle.std.proofs.Common.{◌≡◌, ℕ, zero, suc, ◌+◌, ◌-◌, ◌<◌, ◌≤◌, List, Bool, true, false, ◌||◌, ◌&&◌, []}
use Rattle.std.proofs.Common.{◌∷◌, length, map}
use Rattle.std.proofs.Common.{Option, Some, None, arith, refl, ap, subst}
use Rattle.std.specs.Prelude.{nat_le, flat_map, option_map}
use Rattle.std.specs.List.{All}
use Rattle.std.proofs.lemmas.Bool.{leb-true}
use Rattle.std.proofs.lemmas.List.Elements.{All-nil, All-cons, All-head, All-tail, All-append}
use Rattle.ca_verilog.specs.declared.bus.Bus.{Bus}
use Rattle.ca_verilog.specs.declared.instance.Join.{Join}
use Rattle.ca_verilog.specs.declared.instance.Operand.{Operand}
use Rattle.ca_verilog.specs.declared.instance.Operand.TheVariants.{Whole, Bit, Constant}
use Rattle.ca_verilog.specs.declared.raw.RawSpan.{RawSpan}
use Rattle.ca_verilog.specs.declared.table.Range.{Range}
use Rattle.ca_verilog.specs.Bus.{range_at}
use Rattle.ca_verilog.specs.IsNetlist.{range_width, bit_count, IsBit, IsOnBit, IsJoinOf}
use Rattle.ca_verilog.specs.Joins.{bit_after, pairs_from}
use Rattle.ca_verilog.specs.code.Kept.{IsIndexOf, IsOperand, IsUsed, IsJoin}
use Rattle.ca_verilog.specs.Netlist.{bits_with, first_bits, first_at, first_bit, offset_in, raw_range}
use Rattle.ca_verilog.specs.Netlist.{raw_bus, raw_span, raw_joins}
use Rattle.ca_verilog.specs.Reading.{width_in, width_of}

-- more names have no fewer bits
pub bits_grow : (bits : ℕ) (buses : List Bus) → bits ≤ bits_with bits buses
bits_grow bits [] = omega arith
bits_grow bits (bus ∷ more) = omega (arith, bits_grow (bits + width_in bus.range) more)

width_reported : (range : Option Range) → range_width (option_map raw_range range) ≡ width_in range
width_reported None = refl
width_reported (Some range) = refl

-- the bits of names are counted one name after another
pub counted : (bits : ℕ) (buses : List Bus) → bits_with bits buses ≡ bits + bit_count (map raw_bus buses)
counted bits [] = omega arith
counted bits (bus ∷ more) = omega (arith, counted (bits + width_in bus.range) more, width_reported bus.range)

-- the bits of the name at a place are among all
pub bits_at : (bits : ℕ) (buses : List Bus) (place : ℕ) → place < length buses
    → first_at place (first_bits bits buses) + width_in (range_at place buses) ≤ bits_with bits buses
bits_at bits [] place within = absurd (omega arith)
bits_at bits (bus ∷ more) zero within = bits_grow (bits + width_in bus.range) more
bits_at bits (bus ∷ more) (suc place) within = bits_at (bits + width_in bus.range) more place (omega arith)

-- a vector has a bit, and so has a scalar
pub some_bit : (range : Option Range) → 0 < width_in range
some_bit None = omega arith
some_bit (Some range) = omega arith

both_true : (x y : Bool) → (x && y) ≡ true → (x ≡ true) × (y ≡ true)
both_true true y is = (refl, is)
both_true false y is = absurd cc

between : (index : ℕ) (range : Range) (low high : Bool) → (nat_le range.left index && nat_le index range.right) ≡ low
    → (nat_le range.right index && nat_le index range.left) ≡ high → (low || high) ≡ true
    → (range.left - index) + (index - range.left) < (range.left - range.right) + (range.right - range.left) + 1
between index range true high low_is high_is is =
    let ends : (nat_le range.left index ≡ true) × (nat_le index range.right ≡ true) = both_true _ _ low_is in
    omega (arith, leb-true range.left index ends.0, leb-true index range.right ends.1)
between index range false true low_is high_is is =
    let ends : (nat_le range.right index ≡ true) × (nat_le index range.left ≡ true) = both_true _ _ high_is in
    omega (arith, leb-true range.right index ends.0, leb-true index range.left ends.1)
between index range false false low_is high_is is = absurd cc

-- an index of a range is among its bits
pub offset_within : (range : Option Range) (index : ℕ) → IsIndexOf index range → offset_in range index < width_in range
offset_within None index is = absurd is
offset_within (Some range) index is = between index range _ _ refl refl is

-- the bits of an operand are declared ones
pub after_within : (buses : List Bus) (operand : Operand) (step : ℕ) → IsOperand buses operand → step < width_of buses operand
    → IsBit (bits_with 0 buses) (bit_after step (first_bit (first_bits 0 buses) buses operand))
after_within buses (Whole place) step is within = omega (arith, bits_at 0 buses place is)
after_within buses (Bit place index) step is within =
    omega (arith, bits_at 0 buses place is.0, offset_within (range_at place buses) index is.1)
after_within buses (Constant value) step is within = tt

-- the first bit of an operand is a declared one
pub first_within : (buses : List Bus) (operand : Operand) → IsOperand buses operand
    → IsBit (bits_with 0 buses) (first_bit (first_bits 0 buses) buses operand)
first_within buses (Whole place) is = omega (arith, bits_at 0 buses place is, some_bit (range_at place buses))
first_within buses (Bit place index) is = omega (arith, bits_at 0 buses place is.0, offset_within (range_at place buses) index is.1)
first_within buses (Constant value) is = tt

pub used_within : (buses : List Bus) (on : Option Operand) → IsUsed buses on
    → IsOnBit (bits_with 0 buses) (option_map (first_bit (first_bits 0 buses) buses) on)
used_within buses None is = tt
used_within buses (Some operand) is = first_within buses operand is

-- an operand has no more bits than there are, where there are some
pub width_within : (buses : List Bus) (operand : Operand) → IsOperand buses operand → width_of buses operand ≤ bits_with 0 buses + 1
width_within buses (Whole place) is = omega (arith, bits_at 0 buses place is)
width_within buses (Bit place index) is = omega arith
width_within buses (Constant value) is = omega arith

pairs_within : (count : ℕ) (span : RawSpan) (step many : ℕ)
    → ((k : ℕ) → k < step + many → IsBit count (bit_after k span.left) × IsBit count (bit_after k span.right))
    → All (IsJoinOf count) (pairs_from span step many)
pairs_within count span step zero within = All-nil (IsJoinOf count)
pairs_within count span step (suc many) within =
    All-cons (IsJoinOf count) (record { left = bit_after step span.left; right = bit_after step span.right })
    (pairs_from span (step + 1) many) (within step (omega arith))
    (pairs_within count span (step + 1) many (λ k lt. within k (omega arith)))

-- all pairs of bits that are joined are declared ones
pub joins_within : (buses : List Bus) (joins : List Join) → All (IsJoin buses) joins
    → All (IsJoinOf (bits_with 0 buses)) (flat_map (raw_joins (first_bits 0 buses) buses) joins)
joins_within buses [] are = All-nil (IsJoinOf (bits_with 0 buses))
joins_within buses (join ∷ more) are =
    let is : IsJoin buses join = All-head (IsJoin buses) join more are in
    All-append (IsJoinOf (bits_with 0 buses)) (raw_joins (first_bits 0 buses) buses join)
    (flat_map (raw_joins (first_bits 0 buses) buses) more)
    (pairs_within (bits_with 0 buses) (raw_span (first_bits 0 buses) buses join) 0 (width_of buses join.left)
    (λ k lt. (after_within buses join.left k is.left_side (omega arith), after_within buses join.right k is.right_side (omega (arith, is.same_width)))))
    (joins_within buses more (All-tail (IsJoin buses) join more are))

-- the number of an operand's first bit is one of a declared bit
pub bit_fits : (firsts : List ℕ) (buses : List Bus) (place index : ℕ) → firsts ≡ first_bits 0 buses → IsOperand buses (Bit place index)
    → first_at place firsts + offset_in (range_at place buses) index < bits_with 0 buses
bit_fits firsts buses place index numbered is =
    omega (arith, ap (first_at place) numbered, bits_at 0 buses place is.0, offset_within (range_at place buses) index is.1)

-- the rest of what is to be read
pub left_of : {X : Type 0} (P : X → Type 0) (first : X) (more rest : List X) → rest ≡ first ∷ more → All P rest → All P more
left_of P first more rest is all = All-tail P first more (subst (All P) is all)

pub here_of : {X : Type 0} (P : X → Type 0) (first : X) (more rest : List X) → rest ≡ first ∷ more → All P rest → P first
here_of P first more rest is all = All-head P first more (subst (All P) is all)
