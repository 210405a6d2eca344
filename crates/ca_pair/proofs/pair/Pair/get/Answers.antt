use Rattle.std.proofs.Common.{◌<◌, ◌∙◌, sym, ap, length, arith, List, ℕ, Bool, Some}
use Rattle.std.specs.Prelude.{slice_get}
use Rattle.ca_pair.specs.code.Bits.{bit_in}
use Rattle.ca_pair.proofs.BitLemmas.{length-bits_from, bit_there}
use Rattle.ca_pair.proofs.pair.Pair.get.Goals as goal

pub bit_of-requires : goal.bit_of-requires
bit_of-requires c =
    let counted = length-bits_from c.self.inside.words.items 0 c.self.inside.len in
    let seen = ap length c.self.view_is in
    let kept = c.self.invariant in
    let words = ap length c.deref.ensures.value in
    omega arith

pub returns : goal.returns
returns c =
    let words = c.self.inside.words.items in
    let counted = length-bits_from words 0 c.self.inside.len in
    let seen = ap length c.self.view_is in
    let within : c.args.bit < c.self.inside.len = omega arith in
    ap (λ (bits : List Bool). slice_get bits c.args.bit) (sym c.self.view_is)
    ∙ bit_there words c.self.inside.len c.args.bit within
    ∙ ap (λ (list : List ℕ). Some (bit_in list c.args.bit)) (sym c.deref.ensures.value)
    ∙ ap Some (sym c.bit_of.ensures)
