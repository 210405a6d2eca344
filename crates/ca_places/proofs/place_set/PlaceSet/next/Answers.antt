use Rattle.std.proofs.Common.{◌/◌, ◌%◌, ◌^◌, ◌≡◌, ◌<◌, get_or, arith, w64, sym, ◌∙◌, ap}
use Rattle.std.specs.Int.{bit_at, trailing_zeros}
use Rattle.std.proofs.lemmas.List.{get_or_read}
use Rattle.std.proofs.lemmas.Nat.Bits.{bit_at-trailing_zeros}
use Rattle.ca_places.proofs.PlaceLemmas.{found_in_word, none_in_word, rest, rest_small, rest_none, rest_lowest}
use Rattle.ca_places.proofs.place_set.PlaceSet.next.Goals as goal

pub returns-then-rest-ne0 : goal.returns-then-rest-ne0
returns-then-rest-ne0 c =
    let words = c.args.self.now.words.items in
    let from = c.args.from in
    let word = c.index.result.now in
    let is : word ≡ get_or words (from / 64) 0 = get_or_read words (from / 64) word (omega arith) c.index.ensures 0 in
    let fits : word < 2 ^ 64 = omega arith in
    let small = rest_small word (from % 64) fits (omega arith) in
    let lowest = rest_lowest word (from % 64) fits (omega arith) (omega arith) small in
    let low = lowest.1 in
    let found = found_in_word words from (from / 64) (trailing_zeros w64 (rest word (from % 64) fits (omega arith))) lowest.0 (omega arith)
    (ap (λ w. bit_at w (trailing_zeros w64 (rest word (from % 64) fits (omega arith)))) (sym is) ∙ lowest.2)
    (λ i below above. ap (λ w. bit_at w i) (sym is) ∙ lowest.3 i (omega arith) below)
    (λ place above below has. absurd (omega arith)) in
    (omega arith, found.0, found.1)

pub loop-place-init : goal.loop-place-init
loop-place-init c =
    let words = c.args.self.now.words.items in
    let from = c.args.from in
    let word = c.index.result.now in
    let is : word ≡ get_or words (from / 64) 0 = get_or_read words (from / 64) word (omega arith) c.index.ensures 0 in
    let fits : word < 2 ^ 64 = omega arith in
    none_in_word words from (from / 64)
    (λ i below above. ap (λ w. bit_at w i) (sym is) ∙ rest_none word (from % 64) fits (omega arith) c.if-rest-ne0.false i (omega arith) below)
    (λ place above below has. absurd (omega arith))

pub returns-then-word-ne0 : goal.returns-then-word-ne0
returns-then-word-ne0 c =
    let words = c.args.self.now.words.items in
    let from = c.args.from in
    let word = c.index-word.result.now in
    let is : word ≡ get_or words c.loop-place.place 0 = get_or_read words c.loop-place.place word (omega arith) c.index-word.ensures 0 in
    let fits : word < 2 ^ 64 = omega arith in
    let lowest = bit_at-trailing_zeros w64 word (omega arith) fits in
    let found = found_in_word words from c.loop-place.place (trailing_zeros w64 word) lowest.0 (omega arith)
    (ap (λ w. bit_at w (trailing_zeros w64 word)) (sym is) ∙ lowest.1)
    (λ i below above. ap (λ w. bit_at w i) (sym is) ∙ lowest.2 i below) c.loop-place.invariant in
    (omega arith, found.0, found.1)
