use Rattle.std.proofs.Common.{arith}
use Rattle.ca_view.specs.Linked.{IsPlaced, place_in}
use Rattle.ca_every_vector.specs.code.Lanes.{HasLastsInLanes, values_of}
use Rattle.ca_every_vector.specs.code.Masks.{mask_at}
use Rattle.ca_every_vector.proofs.MaskLemmas.{more_none, more_then}
use Rattle.ca_every_vector.proofs.NetLemmas.{entry_has}
use Rattle.ca_every_vector.proofs.TableLemmas.{all_more, all_taken}
use Rattle.ca_every_vector.proofs.TriedLemmas.{all_then, lasts_at_more}
use Rattle.ca_every_vector.proofs.lane_tried.try_parts.Goals as goal

pub loop-place-init : goal.loop-place-init
loop-place-init c = record {
  lasts = λ k d low. absurd (omega arith);
  more = more_none c.args.masks.now;
  other_nets = c.requires.other_nets;
  rest = c.requires.rest;
  room = c.requires.room;
}

pub rows_for-requires-clause-placed : goal.rows_for-requires-clause-placed
rows_for-requires-clause-placed c =
    entry_has (IsPlaced c.args.chip.now.core (place_in c.args.chip.now.ranks)) c.args.fresh.now c.loop-place.place c.entry-u.result c.entry-u.ensures c.requires.fresh

pub loop-place-preserved : goal.loop-place-preserved
loop-place-preserved c =
    let core = c.args.chip.now.core in
    let values = c.args.values.now in
    let u = c.entry-u.result in
    let old = c.loop-place.masks in
    let new = c.add.new.masks in
    record {
      lasts = all_more (λ w. HasLastsInLanes c.args.chip.now.core c.args.values.now w (mask_at c.add.new.masks w)) c.args.fresh.now c.loop-place.place c.entry-u.result c.entry-u.ensures
          (λ lane low. lasts_at_more core (values_of values lane) u c.in_ok-rows.rows (mask_at new u) c.add.ensures.added (c.in_ok-rows.ensures.lasts lane low))
          (all_then (λ w. HasLastsInLanes core values w (mask_at old w)) (λ w. HasLastsInLanes core values w (mask_at new w)) _
          (λ w has lane low. lasts_at_more core (values_of values lane) w (mask_at old w) (mask_at new w) (c.add.ensures.more.each w) (has lane low)) c.loop-place.invariant.lasts);
      more = more_then c.args.masks.now c.loop-place.masks c.add.new.masks c.loop-place.invariant.more c.add.ensures.more;
      other_nets = c.in_ok-rows.ensures.other_nets;
      rest = c.in_ok-rows.ensures.rest;
      room = c.in_ok-rows.ensures.room;
    }

pub returns-clause-lasts : goal.returns-clause-lasts
returns-clause-lasts c = all_taken (λ w. HasLastsInLanes c.args.chip.now.core c.args.values.now w (mask_at c.loop-place.masks w)) c.args.fresh.now c.loop-place.place
    (let past = c.loop-place-test.false in omega arith) c.loop-place.invariant.lasts
