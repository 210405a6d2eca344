use Rattle.std.proofs.Common.{refl, ◌+◌, subst, sym, ap, arith}
use Rattle.ca_net.specs.State.{value_at}
use Rattle.ca_view.specs.Linked.{place_in}
use Rattle.ca_view.specs.Places.{cell_number}
use Rattle.ca_sweep.specs.Seen.{flipped_outputs}
use Rattle.ca_sweep.specs.code.Changes.{IsSweptTo, IsWritten}
use Rattle.ca_sweep.specs.code.Held.{IsHeld}
use Rattle.ca_sweep.proofs.SweepLemmas.{swept_begins, swept_passes, swept_held}
use Rattle.ca_sweep.proofs.SegmentLemmas.{ends_swept, cut_made}
use Rattle.ca_sweep.proofs.run.sweep.Goals as goal

pub places-init : goal.places-init
places-init c =
    let core = c.args.chip.now.core in
    let place_of = place_in c.args.chip.now.ranks in
    let goods = value_at c.args.lasts.now in
    let bound = c.linked.ensures.linked.within c.args.u c.requires.placed.known in
    let at = c.rank-from.ensures in
    record {
      swept = subst (λ place. IsSweptTo core place_of c.args.u goods (flipped_outputs core c.args.u goods c.args.flips) place c.flip.new.self)
          (ap (λ place. place + 1) (sym c.rank-from.ensures))
          (swept_begins core place_of (cell_number c.args.chip.now.chip) c.linked.ensures.linked c.args.u c.requires.placed.known goods _
          c.args.values.now c.flip.new.self c.requires.rest.room (λ net. ap (λ list. value_at list net) c.requires.rest.values_are) c.requires.rest.none
          (subst (λ list. IsWritten core place_of c.args.u (flipped_outputs core c.args.u (value_at list) c.args.flips) c.args.values.now c.flip.new.self)
          c.requires.rest.values_are c.flip.ensures));
      within = omega arith;
    }

pub pass-requires-clause-within : goal.pass-requires-clause-within
pass-requires-clause-within c =
    let found = c.places.invariant.swept.due c.in-Some.place c.in-Some.ensures.1 in
    let bound = c.linked.ensures.linked.within found.0 found.1.known in
    let at = found.2 in
    let room = c.requires.order.room in
    omega arith

pub returns-then-not-pass-clause-held : goal.returns-then-not-pass-clause-held
returns-then-not-pass-clause-held c =
    let core = c.args.chip.now.core in
    let place_of = place_in c.args.chip.now.ranks in
    subst (IsHeld core place_of c.args.u (value_at c.args.lasts.now)) (sym (c.if-not-pass.ensures.kept refl))
    (swept_held core place_of (cell_number c.args.chip.now.chip) c.linked.ensures.linked
    c.args.u c.requires.placed.known (value_at c.args.lasts.now) _ c.places.from c.places.values c.places.invariant.swept)

pub order-w-requires : goal.order-w-requires
order-w-requires c =
    let done = c.if-not-pass.ensures.passed refl in
    record { instance = done.instance; is_placed = done.placed; at = done.at }

pub returns-in-Some-flips_at-clause-swept : goal.returns-in-Some-flips_at-clause-swept
returns-in-Some-flips_at-clause-swept c = (
  cut_made c.args.chip.now.core (place_in c.args.chip.now.ranks) (cell_number c.args.chip.now.chip) c.linked.ensures.linked (value_at c.args.lasts.now)
      c.args.u c.args.flips c.requires.placed.known c.places.from c.in-Some.place c.order-w.result c.places.values c.pass.new.values c.places.invariant.swept
      c.in-Some.ensures (c.if-is_last.ensures refl) (c.if-not-pass.ensures.passed refl) c.order-w.ensures.placed c.order-w.ensures.at,
  c.in-Some-flips_at.ensures,
)

pub returns-in-Some-flips_at-clause-held : goal.returns-in-Some-flips_at-clause-held
returns-in-Some-flips_at-clause-held c =
    let core = c.args.chip.now.core in
    let place_of = place_in c.args.chip.now.ranks in
    swept_held core place_of (cell_number c.args.chip.now.chip) c.linked.ensures.linked c.args.u c.requires.placed.known (value_at c.args.lasts.now) _
    (c.in-Some.place + 1) c.pass.new.values
    (swept_passes core place_of (cell_number c.args.chip.now.chip) c.linked.ensures.linked c.args.u c.requires.placed.known (value_at c.args.lasts.now) _
    c.places.from c.in-Some.place c.places.values c.pass.new.values c.places.invariant.swept c.in-Some.ensures (c.if-not-pass.ensures.passed refl))

pub places-preserved : goal.places-preserved
places-preserved c =
    let found = c.places.invariant.swept.due c.in-Some.place c.in-Some.ensures.1 in
    let bound = c.linked.ensures.linked.within found.0 found.1.known in
    let at = found.2 in
    record {
      swept = swept_passes c.args.chip.now.core (place_in c.args.chip.now.ranks) (cell_number c.args.chip.now.chip) c.linked.ensures.linked
          c.args.u c.requires.placed.known (value_at c.args.lasts.now) _ c.places.from c.in-Some.place c.places.values c.pass.new.values
          c.places.invariant.swept c.in-Some.ensures (c.if-not-pass.ensures.passed refl);
      within = omega arith;
    }

pub places-smaller : goal.places-smaller
places-smaller c =
    let found = c.places.invariant.swept.due c.in-Some.place c.in-Some.ensures.1 in
    let bound = c.linked.ensures.linked.within found.0 found.1.known in
    let at = found.2 in
    let least = c.in-Some.ensures.0 in
    omega arith

pub returns-clause-swept : goal.returns-clause-swept
returns-clause-swept c =
    ends_swept c.args.chip.now.core (place_in c.args.chip.now.ranks) (cell_number c.args.chip.now.chip) c.linked.ensures.linked (value_at c.args.lasts.now)
    c.args.u c.args.flips c.requires.placed.known c.places.from c.places.values c.places.invariant.swept c.in_default.ensures

pub returns-clause-held : goal.returns-clause-held
returns-clause-held c =
    swept_held c.args.chip.now.core (place_in c.args.chip.now.ranks) (cell_number c.args.chip.now.chip) c.linked.ensures.linked
    c.args.u c.requires.placed.known (value_at c.args.lasts.now) _ c.places.from c.places.values c.places.invariant.swept
