-- Pairs of bits that an `assign` joins.
use Rattle.std.specs.Prelude.{ℕ, zero, suc, ◌+◌, List, [], ◌∷◌}
use Rattle.ca_verilog.specs.declared.raw.RawBit.{RawBit}
use Rattle.ca_verilog.specs.declared.raw.RawBit.TheVariants as bit
use Rattle.ca_verilog.specs.declared.raw.RawJoin.{RawJoin}
use Rattle.ca_verilog.specs.declared.raw.RawSpan.{RawSpan}

-- the bit so far to the right of this one; a constant is the same at each place
abbrev pub bit_after : ℕ → RawBit → RawBit
bit_after step (bit.Bit number) = bit.Bit (number + step)
bit_after step (bit.Constant value) = bit.Constant value

-- this many pairs of a span, from this one on
abbrev pub pairs_from : RawSpan → ℕ → ℕ → List RawJoin
pairs_from span step zero = []
pairs_from span step (suc count) =
    record { left = bit_after step span.left; right = bit_after step span.right }
    ∷ pairs_from span (step + 1) count

-- the pairs of a span, from its left end on
abbrev pub pairs_of : RawSpan → List RawJoin
pairs_of span = pairs_from span 0 span.count
