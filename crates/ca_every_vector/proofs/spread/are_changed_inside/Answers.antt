use Rattle.std.proofs.Common.{arith, sym, ◌∙◌}
use Rattle.ca_every_vector.specs.code.Spread.{IsChangedInside}
use Rattle.ca_every_vector.proofs.TableLemmas.{all_more, all_taken}
use Rattle.ca_every_vector.proofs.spread.are_changed_inside.Goals as goal

pub loop-place-preserved : goal.loop-place-preserved
loop-place-preserved c =
    all_more (IsChangedInside c.args.chip.now.core c.args.chip.now.lists c.args.values.now c.args.others.now) c.args.changed.now c.loop-place.place c.entry-net.result
    c.entry-net.ensures (record {
      hidden = sym c.is_observed.ensures ∙ c.if-is_observed.false;
      readers = c.are_readers_inside.ensures c.if-not-are_readers_inside.false;
    }) c.loop-place.invariant

pub returns : goal.returns
returns c = λ is. all_taken (IsChangedInside c.args.chip.now.core c.args.chip.now.lists c.args.values.now c.args.others.now) c.args.changed.now c.loop-place.place
    (let past = c.loop-place-test.false in omega arith) c.loop-place.invariant
