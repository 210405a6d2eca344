use Rattle.std.proofs.Common.{arith, rules, w64}
use Rattle.std.proofs.lemmas.Nat.Bits.{bit_at_set_same, bit_at_set_other, bit_at_clear_same}
use Rattle.std.proofs.lemmas.Nat.Bits.{bit_at_clear_other}
use Rattle.ca_pair.proofs.pair.with_bit.Goals as goal

pub returns-then-bit-clause-here : goal.returns-then-bit-clause-here
returns-then-bit-clause-here c =
    (λ t. bit_at_set_same w64 c.args.word c.args.place (omega arith), λ e. search rules)

pub returns-then-bit-clause-others : goal.returns-then-bit-clause-others
returns-then-bit-clause-others c = λ other lt apart.
    bit_at_set_other w64 c.args.word c.args.place (omega arith) other apart

pub returns-else-bit-clause-here : goal.returns-else-bit-clause-here
returns-else-bit-clause-here c = (
  λ t. search rules,
  λ e. let clear = bit_at_clear_same w64 c.args.word c.args.place (omega arith) in absurd (omega arith),
)

pub returns-else-bit-clause-others : goal.returns-else-bit-clause-others
returns-else-bit-clause-others c = λ other lt apart.
    bit_at_clear_other w64 c.args.word c.args.place (omega arith) other lt apart
