use Rattle.std.proofs.Common.{◌/◌, ◌+◌, get_or, ap, ◌∙◌}
use Rattle.ca_places.proofs.WindowLemmas.{window_has}
use Rattle.ca_places.proofs.place_set.PlaceSet.window.Goals as goal

pub returns : goal.returns
returns c = λ k bit.
    let words = c.args.self.now.words.items in
    let from = c.args.from in
    window_has words from k c.word_at.result c.word_at-2.result c.word_at.type_inv
    (c.word_at.ensures ∙ ap (λ ws. get_or ws (from / 64) 0) c.deref.ensures.value)
    (c.word_at-2.ensures ∙ ap (λ ws. get_or ws (from / 64 + 1) 0) c.deref-2.ensures.value) bit
