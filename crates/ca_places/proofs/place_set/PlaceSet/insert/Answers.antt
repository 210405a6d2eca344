use Rattle.std.proofs.Common.{◌<◌, ◌/◌, ◌%◌, length, arith, w64, ap, ◌∙◌}
use Rattle.std.proofs.lemmas.List.{get_or_read}
use Rattle.std.specs.Int.{bit_at}
use Rattle.std.proofs.lemmas.Nat.Bits.{bit_at_set_same, bit_at_set_other}
use Rattle.ca_places.proofs.PlaceLemmas.{bit_here, bit_elsewhere}
use Rattle.ca_places.proofs.place_set.PlaceSet.insert.Goals as goal

pub returns-clause-here : goal.returns-clause-here
returns-clause-here c =
    let words = c.args.self.now.words.items in
    bit_here words c.args.place _ (omega arith) (bit_at_set_same w64 c.index_mut.result.now (c.args.place % 64) (omega arith))

pub returns-clause-others : goal.returns-clause-others
returns-clause-others c =
    let words = c.args.self.now.words.items in
    let within : c.args.place / 64 < length words = omega arith in
    let read = get_or_read words (c.args.place / 64) c.index_mut.result.now within c.index_mut.ensures.value 0 in
    bit_elsewhere words c.args.place _ within
    (λ i lt apart. bit_at_set_other w64 c.index_mut.result.now (c.args.place % 64) (omega arith) i apart ∙ ap (λ w. bit_at w i) read)
