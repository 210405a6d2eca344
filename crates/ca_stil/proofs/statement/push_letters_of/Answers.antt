use Rattle.std.proofs.Common.{◌∙◌, ap, sym}
use Rattle.std.proofs.lemmas.Option.{get_or_from_slice_get}
use Rattle.ca_net.specs.declared.trit.Trit.TheVariants.{X}
use Rattle.ca_stil.specs.Words.{level_of}
use Rattle.ca_stil.proofs.CellLemmas.{letters_more, one_more}
use Rattle.ca_stil.proofs.statement.push_letters_of.Goals as goal

pub loop-k-preserved : goal.loop-k-preserved
loop-k-preserved g c =
    let values = g.E.ExpectedValues.values c.args.expected.now in
    let read = get_or_from_slice_get values _ c.value.result X c.value.ensures in
    one_more c.args.text.now _ _ _ _ _ _ c.loop-k.invariant c.in_ok-push.ensures.ok
    (c.level_of.ensures ∙ ap level_of (sym read))
    (letters_more c.args.count c.loop-k.k values X c.loop-k-test.true c.requires.long)
