use Rattle.std.proofs.Common.{◌+◌, refl, ap, subst, sym, ◌∙◌, arith}
use Rattle.ca_net.specs.State.{value_at}
use Rattle.ca_view.specs.Linked.{place_in}
use Rattle.ca_view.specs.Places.{cell_number}
use Rattle.ca_sweep.specs.Seen.{flipped_outputs}
use Rattle.ca_sweep.specs.code.Changes.{IsSweptTo, IsWritten}
use Rattle.ca_sweep.specs.code.Segments.{AreFlippedAt}
use Rattle.ca_sweep.specs.code.Lanes.{flips_in, goods_in, trits_in, values_in}
use Rattle.ca_sweep.proofs.SweepLemmas.{swept_begins, swept_passes, swept_held}
use Rattle.ca_sweep.proofs.SegmentLemmas.{ends_swept, cut_made}
use Rattle.ca_sweep.proofs.LaneLemmas.{trits_count}
use Rattle.ca_sweep.proofs.lane_run.sweep_lanes.Goals as goal

pub flip-requires-clause-room : goal.flip-requires-clause-room
flip-requires-clause-room c =
    let rest = c.requires.rest 0 (omega arith) in
    record { nets = sym (trits_count c.args.values.now.ones.items 0) ∙ rest.room.nets; places = rest.room.places }

pub places-init : goal.places-init
places-init c =
    let core = c.args.chip.now.core in
    let place_of = place_in c.args.chip.now.ranks in
    let bound = c.linked.ensures.linked.within c.args.u c.requires.placed.known in
    let at = c.rank-from.ensures in
    record {
      swept = λ lane within.
          let goods = goods_in c.args.goods.now lane in
          let rest = c.requires.rest lane within in
          subst (λ place. IsSweptTo core place_of c.args.u (goods_in c.args.goods.now lane) (flipped_outputs core c.args.u (goods_in c.args.goods.now lane) (flips_in c.args.flips lane)) place
          (values_in c.flip.new.self lane)) (ap (λ place. place + 1) (sym c.rank-from.ensures))
          (swept_begins core place_of (cell_number c.args.chip.now.chip) c.linked.ensures.linked c.args.u c.requires.placed.known goods _
          (values_in c.args.values.now lane) (values_in c.flip.new.self lane) rest.room (λ net. ap (λ list. value_at list net) rest.values_are) rest.none
          (subst (λ list. IsWritten core place_of c.args.u (flipped_outputs core c.args.u (value_at list) (flips_in c.args.flips lane)) (values_in c.args.values.now lane) (values_in c.flip.new.self lane))
          rest.values_are (c.flip.ensures.written lane)));
      within = omega arith;
      room = c.flip.ensures.room;
      masks = c.requires.masks;
    }

pub is_cut-is_cut-requires : goal.is_cut-is_cut-requires
is_cut-is_cut-requires c =
    let found = (c.places.invariant.swept 0 (omega arith)).due c.in-Some.place c.in-Some.ensures.1 in
    let bound = c.linked.ensures.linked.within found.0 found.1.known in
    let few = c.linked.ensures.linked.few in
    let at = found.2 in
    omega arith

pub order-w-requires : goal.order-w-requires
order-w-requires c =
    (swept_held c.args.chip.now.core (place_in c.args.chip.now.ranks) (cell_number c.args.chip.now.chip) c.linked.ensures.linked
    c.args.u c.requires.placed.known (goods_in c.args.goods.now 0) _ c.places.from (values_in c.places.values 0) (c.places.invariant.swept 0 (omega arith))).placed
    c.in-Some.place c.in-Some.ensures.1

pub places-smaller : goal.places-smaller
places-smaller c =
    let found = (c.places.invariant.swept 0 (omega arith)).due c.in-Some.place c.in-Some.ensures.1 in
    let bound = c.linked.ensures.linked.within found.0 found.1.known in
    let at = found.2 in
    let least = c.in-Some.ensures.0 in
    omega arith

pub places-preserved : goal.places-preserved
places-preserved c =
    let core = c.args.chip.now.core in
    let place_of = place_in c.args.chip.now.ranks in
    let found = (c.places.invariant.swept 0 (omega arith)).due c.in-Some.place c.in-Some.ensures.1 in
    let bound = c.linked.ensures.linked.within found.0 found.1.known in
    let at = found.2 in
    record {
      swept = λ lane within.
          swept_passes core place_of (cell_number c.args.chip.now.chip) c.linked.ensures.linked
          c.args.u c.requires.placed.known (goods_in c.args.goods.now lane) _ c.places.from c.in-Some.place (values_in c.places.values lane) (values_in c.evaluate.new.self lane)
          (c.places.invariant.swept lane within) c.in-Some.ensures
          (record { instance = c.order-w.result; placed = c.order-w.ensures.placed; at = c.order-w.ensures.at; evaluated = c.evaluate.ensures.evaluated lane within });
      within = omega arith;
      room = c.evaluate.ensures.room;
      masks = c.evaluate.ensures.masks;
    }

pub returns-then-is_cut-clause-swept : goal.returns-then-is_cut-clause-swept
returns-then-is_cut-clause-swept c = λ lane within.
    let core = c.args.chip.now.core in
    let place_of = place_in c.args.chip.now.ranks in (
      cut_made core place_of (cell_number c.args.chip.now.chip) c.linked.ensures.linked (goods_in c.args.goods.now lane)
          c.args.u (flips_in c.args.flips lane) c.requires.placed.known c.places.from c.in-Some.place c.order-w.result (values_in c.places.values lane) (values_in c.evaluate.new.self lane)
          (c.places.invariant.swept lane within) c.in-Some.ensures (c.if-is_cut.ensures refl)
          (record { instance = c.order-w.result; placed = c.order-w.ensures.placed; at = c.order-w.ensures.at; evaluated = c.evaluate.ensures.evaluated lane within })
          c.order-w.ensures.placed c.order-w.ensures.at,
      subst (λ list. AreFlippedAt core (goods_in c.args.goods.now lane) c.order-w.result (flips_in c.flips_at.result lane) (value_at (trits_in list lane)))
          c.deref.ensures.value (c.flips_at.ensures lane),
    )

pub returns-then-is_cut-clause-held : goal.returns-then-is_cut-clause-held
returns-then-is_cut-clause-held c = λ lane within.
    let core = c.args.chip.now.core in
    let place_of = place_in c.args.chip.now.ranks in
    swept_held core place_of (cell_number c.args.chip.now.chip) c.linked.ensures.linked c.args.u c.requires.placed.known (goods_in c.args.goods.now lane) _
    (c.in-Some.place + 1) (values_in c.evaluate.new.self lane)
    (swept_passes core place_of (cell_number c.args.chip.now.chip) c.linked.ensures.linked
    c.args.u c.requires.placed.known (goods_in c.args.goods.now lane) _ c.places.from c.in-Some.place (values_in c.places.values lane) (values_in c.evaluate.new.self lane)
    (c.places.invariant.swept lane within) c.in-Some.ensures
    (record { instance = c.order-w.result; placed = c.order-w.ensures.placed; at = c.order-w.ensures.at; evaluated = c.evaluate.ensures.evaluated lane within }))

pub returns-clause-swept : goal.returns-clause-swept
returns-clause-swept c = λ lane within.
    ends_swept c.args.chip.now.core (place_in c.args.chip.now.ranks) (cell_number c.args.chip.now.chip) c.linked.ensures.linked (goods_in c.args.goods.now lane)
    c.args.u (flips_in c.args.flips lane) c.requires.placed.known c.places.from (values_in c.places.values lane) (c.places.invariant.swept lane within) c.in_default.ensures

pub returns-clause-held : goal.returns-clause-held
returns-clause-held c = λ lane within.
    swept_held c.args.chip.now.core (place_in c.args.chip.now.ranks) (cell_number c.args.chip.now.chip) c.linked.ensures.linked
    c.args.u c.requires.placed.known (goods_in c.args.goods.now lane) _ c.places.from (values_in c.places.values lane) (c.places.invariant.swept lane within)
