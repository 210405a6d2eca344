use Rattle.std.proofs.Common.{arith, subst}
use Rattle.std.proofs.lemmas.List.Elements.{All-get_or}
use Rattle.std.proofs.lemmas.Option.{get_or_from_slice_get, slice_get_within}
use Rattle.ca_net.specs.State.{value_at}
use Rattle.ca_view.specs.Linked.{IsPlaced, place_in}
use Rattle.ca_every_vector.specs.Inside.{IsEvaluatedInside}
use Rattle.ca_every_vector.proofs.TableLemmas.{all_more, all_taken}
use Rattle.ca_every_vector.proofs.spread.are_touched_inside.Goals as goal

pub is_inside-requires-clause-placed : goal.is_inside-requires-clause-placed
is_inside-requires-clause-placed c =
    let w = c.entry-w.result in
    let touched = c.args.touched.now in
    subst (IsPlaced c.args.chip.now.core (place_in c.args.chip.now.ranks)) (get_or_from_slice_get touched c.loop-place.place w w c.entry-w.ensures)
    (All-get_or (IsPlaced c.args.chip.now.core (place_in c.args.chip.now.ranks)) touched c.loop-place.place w (slice_get_within touched c.loop-place.place w c.entry-w.ensures) c.requires.placed)

pub loop-place-preserved : goal.loop-place-preserved
loop-place-preserved c =
    all_more (λ w. IsEvaluatedInside c.args.chip.now.core w (value_at c.args.values.now) (value_at c.args.others.now)) c.args.touched.now c.loop-place.place c.entry-w.result
    c.entry-w.ensures (c.is_inside.ensures c.if-not-is_inside.false) c.loop-place.invariant

pub returns : goal.returns
returns c = λ is. all_taken (λ w. IsEvaluatedInside c.args.chip.now.core w (value_at c.args.values.now) (value_at c.args.others.now)) c.args.touched.now c.loop-place.place
    (let past = c.loop-place-test.false in omega arith) c.loop-place.invariant
