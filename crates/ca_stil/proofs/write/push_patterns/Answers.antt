use Rattle.std.proofs.Common.{ℕ, ◌++◌, ◌∙◌, map, ap}
use Rattle.std.proofs.lemmas.Result.{on_ok_weaker}
use Rattle.ca_stil.specs.Text.{pairs_text, patterns_text}
use Rattle.ca_stil.proofs.Appending.{after_three}
use Rattle.ca_stil.proofs.write.push_patterns.Goals as goal

pub returns : goal.returns
unfolding patterns_text
returns g c =
    let pairs = map g.P.PatternBits.bits c.args.pairs.now in
    let expected = map g.E.ExpectedValues.values c.args.expected.now in
    on_ok_weaker c.append-2.result
    (after_three _ _ _ _ c.in_ok-append.ensures.ok (c.in_ok-push_pairs.ensures
    ∙ ap (λ (n : ℕ). c.append.new.self ++ pairs_text c.args.chip.now n 0 pairs expected) c.requires.most))
    c.append-2.ensures.ok
