use Rattle.std.proofs.Common.{◌∙◌, false, ap, sym, arith}
use Rattle.std.proofs.lemmas.Option.{get_or_from_slice_get}
use Rattle.ca_stil.specs.Chip.{part}
use Rattle.ca_stil.specs.Words.{digit_of, cell_bits}
use Rattle.ca_stil.proofs.CellLemmas.{cell_bits_less, cell_bits_none, stepped, ended}
use Rattle.ca_stil.proofs.shift.push_bits.Goals as goal

pub places-preserved : goal.places-preserved
places-preserved g c =
    let bits = g.P.PatternBits.bits c.args.pair.now in
    let places = c.args.places.now in
    let read = get_or_from_slice_get bits _ c.bit.result false c.bit.ensures in
    record {
      within = omega arith;
      written = stepped c.args.text.now _ _ _ _ (cell_bits (part c.args.from c.args.count bits) places) _ _
          c.places.invariant.written c.in_ok-push.ensures.ok (c.digit_of.ensures ∙ ap digit_of (sym read))
          (cell_bits_less c.args.from c.args.count bits places c.places.left c.places-test.true
          c.places.invariant.within c.requires.within);
    }

pub returns : goal.returns
returns g c =
    let bits = g.P.PatternBits.bits c.args.pair.now in
    ended c.args.text.now c.places.text _ (cell_bits (part c.args.from c.args.count bits) c.args.places.now)
    c.places.invariant.written (cell_bits_none _ c.args.places.now c.places.left c.places-test.false)
