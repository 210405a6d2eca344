use Rattle.std.proofs.Common.{map, arith}
use Rattle.std.proofs.lemmas.List.{length-map}
use Rattle.ca_stil.specs.Chip.{IsPairOf, AreValuesOf}
use Rattle.ca_stil.specs.Text.{pairs_text}
use Rattle.ca_stil.proofs.CellLemmas.{ended}
use Rattle.ca_stil.proofs.PairLemmas.{seen_at, seen_has, pairs_step, pair_stepped, pairs_end}
use Rattle.ca_stil.proofs.write.push_pairs.Goals as goal

pub push_pair-requires-clause-pair : goal.push_pair-requires-clause-pair
push_pair-requires-clause-pair g c =
    seen_has g.P.PatternBits.bits (IsPairOf c.args.chip.now) c.args.pairs.now c.loop-number.number _
    c.loop-number-test.true c.index-pairs-number.is c.requires.bits

pub push_pair-requires-clause-expected : goal.push_pair-requires-clause-expected
push_pair-requires-clause-expected g c =
    let pairs = length-map c.args.pairs.now g.P.PatternBits.bits in
    let expected = length-map c.args.expected.now g.E.ExpectedValues.values in
    seen_has g.E.ExpectedValues.values (AreValuesOf c.args.chip.now) c.args.expected.now c.loop-number.number _
    (omega (arith, pairs, expected, c.requires.counted, c.loop-number-test.true)) c.index-expected-number.is
    c.requires.values

pub loop-number-preserved : goal.loop-number-preserved
loop-number-preserved g c =
    let pairs = map g.P.PatternBits.bits c.args.pairs.now in
    let expected = map g.E.ExpectedValues.values c.args.expected.now in
    let pairs_long = length-map c.args.pairs.now g.P.PatternBits.bits in
    let expected_long = length-map c.args.expected.now g.E.ExpectedValues.values in
    let number = c.loop-number.number in
    pair_stepped c.args.text.now _ _ _ _ (pairs_text c.args.chip.now c.args.most 0 pairs expected) _
    c.loop-number.invariant c.in_ok-push_pair.ensures
    (pairs_step c.args.chip.now c.args.most number pairs expected _ _
    (omega (arith, pairs_long, c.loop-number-test.true)) c.requires.counted
    (seen_at g.P.PatternBits.bits c.args.pairs.now number _ c.loop-number-test.true c.index-pairs-number.is)
    (seen_at g.E.ExpectedValues.values c.args.expected.now number _
    (omega (arith, pairs_long, expected_long, c.requires.counted, c.loop-number-test.true))
    c.index-expected-number.is))

pub returns : goal.returns
returns g c =
    let pairs = map g.P.PatternBits.bits c.args.pairs.now in
    let expected = map g.E.ExpectedValues.values c.args.expected.now in
    let pairs_long = length-map c.args.pairs.now g.P.PatternBits.bits in
    ended c.args.text.now c.loop-number.text _ (pairs_text c.args.chip.now c.args.most 0 pairs expected)
    c.loop-number.invariant
    (pairs_end c.args.chip.now c.args.most c.loop-number.number pairs expected
    (omega (arith, pairs_long, c.loop-number-test.false)))
