use Rattle.std.proofs.Common.{◌≡◌, ◌<◌, arith, sym, ◌∙◌}
use Rattle.std.specs.Int.{bit_at}
use Rattle.std.proofs.lemmas.Bool.{ltb-true}
use Rattle.std.proofs.lemmas.Nat.Bits.{bit_at_above}
use Rattle.ca_every_vector.proofs.every_vector.has.Goals as goal

pub returns-else-number-lt64 : goal.returns-else-number-lt64
returns-else-number-lt64 c = (
  λ is. absurd (let high = c.if-number-lt64.false in let low : c.args.number < 64 = ltb-true c.args.number 64 is in omega arith),
  λ one. absurd (let none : bit_at c.args.mask c.args.number ≡ 0 = bit_at_above c.args.mask 64 c.args.number c.ranges.mask.fits c.if-number-lt64.false in let e : 0 ≡ 1 = sym none ∙ one in omega arith),
)
