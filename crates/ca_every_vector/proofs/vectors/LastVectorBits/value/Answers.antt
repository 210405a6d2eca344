use Rattle.std.proofs.Common.{sym, ◌∙◌, ap, arith, ◌≡◌, ◌<◌, ◌+◌, ◌-◌}
use Rattle.ca_net.specs.State.{value_at}
use Rattle.ca_every_vector.specs.Vectors.{last_set}
use Rattle.ca_every_vector.proofs.VectorLemmas.{digit_at, length-last_set, last_low, last_high}
use Rattle.ca_every_vector.proofs.vectors.LastVectorBits.value.Goals as goal

pub overflow_sub-self-else-bit-self : goal.overflow_sub-self-else-bit-self
overflow_sub-self-else-bit-self c = let long = length-last_set c.args.self.now.inputs c.args.self.now.number in omega arith

pub returns-then-bit-self : goal.returns-then-bit-self
returns-then-bit-self c = sym (last_low c.args.self.now.inputs c.args.self.now.number c.args.bit c.if-bit-self.true)

pub returns-else-bit-self : goal.returns-else-bit-self
returns-else-bit-self c =
    let vector = c.args.self.now in
    let long = length-last_set vector.inputs vector.number in
    let place = c.args.bit - vector.inputs in
    let low : c.args.bit - vector.inputs < vector.inputs = omega arith in
    let e : c.args.bit ≡ vector.inputs + (c.args.bit - vector.inputs) = omega arith in
    c.digit.ensures
    ∙ sym (ap (value_at (last_set vector.inputs vector.number)) e ∙ last_high vector.inputs vector.number (c.args.bit - vector.inputs)
    ∙ digit_at vector.inputs vector.number (c.args.bit - vector.inputs) low)
