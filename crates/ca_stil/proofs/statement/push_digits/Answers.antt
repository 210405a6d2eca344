use Rattle.std.proofs.Common.{◌∙◌, false, ap, sym}
use Rattle.std.proofs.lemmas.Option.{get_or_from_slice_get}
use Rattle.ca_stil.specs.Words.{digit_of}
use Rattle.ca_stil.proofs.CellLemmas.{digits_more, one_more}
use Rattle.ca_stil.proofs.statement.push_digits.Goals as goal

pub loop-k-preserved : goal.loop-k-preserved
loop-k-preserved g c =
    let bits = g.P.PatternBits.bits c.args.pair.now in
    let read = get_or_from_slice_get bits _ c.bit.result false c.bit.ensures in
    one_more c.args.text.now _ _ _ _ _ _ c.loop-k.invariant c.in_ok-push.ensures.ok
    (c.digit_of.ensures ∙ ap digit_of (sym read))
    (digits_more c.args.from c.args.count c.loop-k.k bits false c.loop-k-test.true c.requires.long.0)
