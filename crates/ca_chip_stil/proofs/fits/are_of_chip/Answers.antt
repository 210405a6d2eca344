use Rattle.std.proofs.Common.{rules, ◌≡◌, ◌+◌, ◌∙◌, IsTrue, true, false, length, arith, sym}
use Rattle.ca_linked.specs.Linked.{inputs_of}
use Rattle.ca_chip_stil.proofs.FitLemmas.{makes_of_chip, of_bits, of_values}
use Rattle.ca_chip_stil.proofs.fits.are_of_chip.Goals as goal

pub returns : goal.returns
returns g c =
    let bits = g.P.PatternBits.bits in
    let values = g.E.ExpectedValues.values in
    let chip = c.args.chip.now in
    let chains = c.args.chains.now in
    let width : c.inputs-width.result + c.inputs-width.result ≡ length (inputs_of chip) + length (inputs_of chip) =
    omega (arith, c.inputs-width.ensures) in
    let held : IsTrue true = search rules in (
      λ yes. makes_of_chip bits values chip chains c.args.pairs.now c.args.expected.now c.requires
          (λ k d below. c.if-not-have_bits.ensures.0 held k d below ∙ width)
          (λ k d below. c.have_values.ensures.0 yes k d below ∙ c.outputs-outputs.ensures)
          c.if-pairs-expected.false,
      λ of. c.have_values.ensures.1
          (λ k d below.
          of_values bits values chip chains c.args.pairs.now c.args.expected.now of k d below ∙ sym c.outputs-outputs.ensures),
    )

pub returns-then-not-have_bits : goal.returns-then-not-have_bits
returns-then-not-have_bits g c =
    let bits = g.P.PatternBits.bits in
    let values = g.E.ExpectedValues.values in
    let chip = c.args.chip.now in
    let width : length (inputs_of chip) + length (inputs_of chip) ≡ c.inputs-width.result + c.inputs-width.result =
    omega (arith, c.inputs-width.ensures) in (
      λ no. absurd (let clash : false ≡ true = no in cc),
      λ of. c.if-not-have_bits.ensures.1
          (λ k d below.
          of_bits bits values chip c.args.chains.now c.args.pairs.now c.args.expected.now of k d below ∙ width),
    )
