use Rattle.std.proofs.Common.{◌∙◌, ap, sym, arith}
use Rattle.std.proofs.lemmas.Option.{get_or_from_slice_get}
use Rattle.ca_net.specs.declared.trit.Trit.TheVariants.{X}
use Rattle.ca_stil.specs.Chip.{part}
use Rattle.ca_stil.specs.Words.{level_of, cell_levels}
use Rattle.ca_stil.proofs.CellLemmas.{cell_levels_less, cell_levels_none, stepped, ended}
use Rattle.ca_stil.proofs.shift.push_cell_levels.Goals as goal

pub places-preserved : goal.places-preserved
places-preserved g c =
    let values = g.E.ExpectedValues.values c.args.expected.now in
    let places = c.args.places.now in
    let read = get_or_from_slice_get values _ c.value.result X c.value.ensures in
    record {
      within = omega arith;
      written = stepped c.args.text.now _ _ _ _ (cell_levels (part c.args.from c.args.count values) places) _ _
          c.places.invariant.written c.in_ok-push.ensures.ok (c.level_of.ensures ∙ ap level_of (sym read))
          (cell_levels_less c.args.from c.args.count values places c.places.left X c.places-test.true
          c.places.invariant.within c.requires.within c.requires.long.0);
    }

pub returns : goal.returns
returns g c =
    let values = g.E.ExpectedValues.values c.args.expected.now in
    ended c.args.text.now c.places.text _ (cell_levels (part c.args.from c.args.count values) c.args.places.now)
    c.places.invariant.written (cell_levels_none _ c.args.places.now c.places.left c.places-test.false)
