use Rattle.std.proofs.Common.{subst, arith}
use Rattle.std.proofs.lemmas.List.Elements.{All-get_or}
use Rattle.std.proofs.lemmas.Option.{get_or_from_slice_get, slice_get_within}
use Rattle.ca_net.specs.State.{value_at}
use Rattle.ca_view.specs.Linked.{IsPlaced, place_in}
use Rattle.ca_every_vector.specs.code.Masks.{mask_at}
use Rattle.ca_every_vector.specs.code.Region.{HasLastsAt}
use Rattle.ca_every_vector.proofs.MaskLemmas.{more_none, more_then}
use Rattle.ca_every_vector.proofs.TableLemmas.{all_more, all_taken}
use Rattle.ca_every_vector.proofs.TriedLemmas.{all_then, lasts_at_more}
use Rattle.ca_every_vector.proofs.tried.try_parts.Goals as goal

pub loop-place-init : goal.loop-place-init
loop-place-init c = record { lasts = λ k d low. absurd (omega arith); more = more_none c.args.masks.now; rest = c.requires.rest }

pub rows_for-requires-clause-placed : goal.rows_for-requires-clause-placed
rows_for-requires-clause-placed c =
    let u = c.entry-u.result in
    let parts = c.args.parts.now in
    subst (IsPlaced c.args.chip.now.core (place_in c.args.chip.now.ranks)) (get_or_from_slice_get parts c.loop-place.place u u c.entry-u.ensures)
    (All-get_or (IsPlaced c.args.chip.now.core (place_in c.args.chip.now.ranks)) parts c.loop-place.place u (slice_get_within parts c.loop-place.place u c.entry-u.ensures) c.requires.placed)

pub loop-place-preserved : goal.loop-place-preserved
loop-place-preserved c =
    let core = c.args.chip.now.core in
    let values = c.args.values.now in
    let u = c.entry-u.result in
    let old = c.loop-place.masks in
    let new = c.add.new.masks in
    record {
      lasts = all_more (λ w. HasLastsAt c.args.chip.now.core (value_at c.args.values.now) w (mask_at c.add.new.masks w)) c.args.parts.now c.loop-place.place c.entry-u.result c.entry-u.ensures
          (lasts_at_more core (value_at values) u c.in_ok-rows.rows (mask_at new u) c.add.ensures.added c.in_ok-rows.ensures.lasts)
          (all_then (λ w. HasLastsAt core (value_at values) w (mask_at old w)) (λ w. HasLastsAt core (value_at values) w (mask_at new w)) _
          (λ w has. lasts_at_more core (value_at values) w (mask_at old w) (mask_at new w) (c.add.ensures.more.each w) has) c.loop-place.invariant.lasts);
      more = more_then c.args.masks.now c.loop-place.masks c.add.new.masks c.loop-place.invariant.more c.add.ensures.more;
      rest = c.in_ok-rows.ensures.rest;
    }

pub returns-clause-lasts : goal.returns-clause-lasts
returns-clause-lasts c = all_taken (λ w. HasLastsAt c.args.chip.now.core (value_at c.args.values.now) w (mask_at c.loop-place.masks w)) c.args.parts.now c.loop-place.place
    (let past = c.loop-place-test.false in omega arith) c.loop-place.invariant.lasts
