use Rattle.std.proofs.Common.{◌≡◌, ◌-◌, ◌+◌, ◌<◌, ℕ, None, arith, subst, sym, ◌∙◌, ap, length, Vec, Global}
use Rattle.std.specs.Prelude.{slice_index_or}
use Rattle.ca_view.specs.Linked.{place_in}
use Rattle.ca_view.specs.Places.{cell_number}
use Rattle.ca_sweep.specs.declared.lane_values.LaneValues.{LaneValues}
use Rattle.ca_sweep.specs.code.Held.{IsAtRest}
use Rattle.ca_sweep.specs.code.Lanes.{AreSeenFrom, trits_in, values_in}
use Rattle.ca_sweep.proofs.LaneFindLemmas.{seen_begins, seen_skips}
use Rattle.ca_sweep.proofs.lane_find.find_lanes.Goals.{in-Some, in_default}
use Rattle.ca_sweep.proofs.lane_find.find_lanes.Goals as goal

pub loop-before-init : goal.loop-before-init
loop-before-init c = record {
  seen = seen_begins c.args.chip.now.core (place_in c.args.chip.now.ranks) (cell_number c.args.chip.now.chip) c.linked.ensures.linked c.args.goods.now c.args.seen.now.items _
      c.requires.room (let room = c.requires.order.room in omega arith);
  rest = c.requires.rest;
  masks = c.requires.masks;
}

pub find_wanted-requires-clause-placed : goal.find_wanted-requires-clause-placed
find_wanted-requires-clause-placed c = (c.requires.order.only _ c.in-Some.u c.in-Some.is).0

pub find_wanted-requires-clause-seen : goal.find_wanted-requires-clause-seen
find_wanted-requires-clause-seen c =
    let at = (c.requires.order.only _ c.in-Some.u c.in-Some.is).1 in
    let less = c.loop-before-test.true in
    subst (λ n. AreSeenFrom c.args.chip.now.core (place_in c.args.chip.now.ranks) c.args.goods.now n c.loop-before.seen.items)
    (let e : length c.args.order.now - c.loop-before.before ≡ place_in c.args.chip.now.ranks c.in-Some.u + 1 = omega arith in e) c.loop-before.invariant.seen

pub loop-before-preserved : goal.loop-before-preserved
loop-before-preserved c =
    let core = c.args.chip.now.core in
    let ranks = c.args.chip.now.ranks in
    let goods = c.args.goods.now in
    let less = c.loop-before-test.true in
    elim c.match-order-places.branch [
      | in-Some w ↦
          let at = (c.requires.order.only _ w.in-Some.u w.in-Some.is).1 in
          record {
            seen = subst (λ (v : Vec ℕ Global). AreSeenFrom c.args.chip.now.core (place_in c.args.chip.now.ranks) c.args.goods.now (length c.args.order.now - (c.loop-before.before + 1)) v.items) (sym w.seen-is)
                (subst (λ n. AreSeenFrom c.args.chip.now.core (place_in c.args.chip.now.ranks) c.args.goods.now n w.find_wanted.new.seen.items)
                (let e : place_in c.args.chip.now.ranks w.in-Some.u ≡ length c.args.order.now - (c.loop-before.before + 1) = omega arith in e) w.find_wanted.ensures.seen);
            rest = subst (λ (v : LaneValues). (lane : ℕ) → lane < 64 → IsAtRest c.args.chip.now.core (trits_in c.args.goods.now lane) (values_in v lane)) (sym w.values-is) w.find_wanted.ensures.rest;
            masks = ap (λ (v : Vec ℕ Global). length v.items) w.masks-is ∙ w.find_wanted.ensures.masks;
          }
      | in_default w ↦ record {
        seen = subst (λ (v : Vec ℕ Global). AreSeenFrom c.args.chip.now.core (place_in c.args.chip.now.ranks) c.args.goods.now (length c.args.order.now - (c.loop-before.before + 1)) v.items) (sym w.seen-is)
            (seen_skips core (place_in ranks) goods c.loop-before.seen.items (length c.args.order.now - (c.loop-before.before + 1))
            (subst (λ n. AreSeenFrom c.args.chip.now.core (place_in c.args.chip.now.ranks) c.args.goods.now n c.loop-before.seen.items)
            (let e : length c.args.order.now - c.loop-before.before ≡ length c.args.order.now - (c.loop-before.before + 1) + 1 = omega arith in e) c.loop-before.invariant.seen)
            (λ u placed at. w.in_default.not-Some u
            (ap (λ (k : ℕ). slice_index_or c.args.order.now k None) (let e : length c.args.order.now - 1 - c.loop-before.before ≡ place_in c.args.chip.now.ranks u = omega arith in e)
            ∙ c.requires.order.each u placed.known placed.placed)));
        rest = subst (λ (v : LaneValues). (lane : ℕ) → lane < 64 → IsAtRest c.args.chip.now.core (trits_in c.args.goods.now lane) (values_in v lane)) (sym w.values-is) c.loop-before.invariant.rest;
        masks = ap (λ (v : Vec ℕ Global). length v.items) w.masks-is ∙ c.loop-before.invariant.masks;
      }
    ]

pub returns-clause-seen : goal.returns-clause-seen
returns-clause-seen c =
    subst (λ n. AreSeenFrom c.args.chip.now.core (place_in c.args.chip.now.ranks) c.args.goods.now n c.loop-before.seen.items)
    (let e : length c.args.order.now - c.loop-before.before ≡ 0 = omega arith in e) c.loop-before.invariant.seen
