use Rattle.std.proofs.Common.{rules, ◌≡◌, ◌+◌, ◌∙◌, IsTrue, true, length, arith, sym}
use Rattle.ca_stil.specs.Chip.{width_of}
use Rattle.ca_stil.proofs.FitLemmas.{makes_of, of_values}
use Rattle.ca_stil.proofs.fits.are_of.Goals as goal

pub returns : goal.returns
returns g c =
    let bits = g.P.PatternBits.bits in
    let values = g.E.ExpectedValues.values in
    let chip = c.args.chip.now in
    let width : c.len.result + chip.scan_count + (c.len.result + chip.scan_count) ≡ width_of chip + width_of chip =
    omega (arith, c.len.ensures) in
    let outputs : c.len-2.result + chip.scan_count ≡ length chip.outputs + chip.scan_count = omega (arith, c.len-2.ensures) in
    let held : IsTrue true = search rules in (
      λ yes. makes_of bits values chip c.args.pairs.now c.args.expected.now
          (c.if-not-are_within.ensures.0 held)
          (λ k d below. c.if-not-have_bits.ensures.0 held k d below ∙ width)
          (λ k d below. c.have_values.ensures.0 yes k d below ∙ outputs)
          c.if-pairs-expected.false,
      λ of. c.have_values.ensures.1
          (λ k d below. of_values bits values chip c.args.pairs.now c.args.expected.now of k d below ∙ sym outputs),
    )
