use Rattle.std.proofs.Common.{sym, ◌∙◌}
use Rattle.ca_every_vector.proofs.VectorLemmas.{digit_at, first_low, first_high}
use Rattle.ca_every_vector.proofs.vectors.FirstVectorBits.value.Goals as goal

pub returns-then-bit-self : goal.returns-then-bit-self
returns-then-bit-self c =
    let vector = c.args.self.now in
    c.digit.ensures ∙ sym (first_low vector.inputs vector.number c.args.bit c.if-bit-self.true ∙ digit_at vector.inputs vector.number c.args.bit c.if-bit-self.true)

pub returns-else-bit-self : goal.returns-else-bit-self
returns-else-bit-self c = sym (first_high c.args.self.now.inputs c.args.self.now.number c.args.bit c.if-bit-self.false)
