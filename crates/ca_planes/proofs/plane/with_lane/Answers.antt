use Rattle.std.proofs.Common.{arith, w64, ap, ◌==◌, ◌∙◌, sym}
use Rattle.std.proofs.lemmas.Nat.Bits.{bit_at_set_same, bit_at_set_other, bit_at_clear_same}
use Rattle.std.proofs.lemmas.Nat.Bits.{bit_at_clear_other}
use Rattle.ca_planes.specs.Plane.{has_lane}
use Rattle.ca_planes.proofs.plane.with_lane.Goals as goal

pub returns-then-bit-clause-here : goal.returns-then-bit-clause-here
unfolding has_lane
returns-then-bit-clause-here c = ap (λ n. n == 1) (bit_at_set_same w64 c.args.plane c.args.lane (omega arith)) ∙ sym c.if-bit.true

pub returns-then-bit-clause-others : goal.returns-then-bit-clause-others
unfolding has_lane
returns-then-bit-clause-others c = λ other lt apart. ap (λ n. n == 1) (bit_at_set_other w64 c.args.plane c.args.lane (omega arith) other apart)

pub returns-else-bit-clause-here : goal.returns-else-bit-clause-here
unfolding has_lane
returns-else-bit-clause-here c = ap (λ n. n == 1) (bit_at_clear_same w64 c.args.plane c.args.lane (omega arith)) ∙ sym c.if-bit.false

pub returns-else-bit-clause-others : goal.returns-else-bit-clause-others
unfolding has_lane
returns-else-bit-clause-others c = λ other lt apart. ap (λ n. n == 1) (bit_at_clear_other w64 c.args.plane c.args.lane (omega arith) other lt apart)
