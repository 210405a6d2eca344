use Rattle.std.proofs.Common.{arith, subst, sym, ◌∙◌}
use Rattle.ca_view.specs.Linked.{place_in}
use Rattle.ca_sweep.specs.code.Lanes.{AreSeenFrom}
use Rattle.ca_sweep.proofs.LaneLemmas.{trits_count}
use Rattle.ca_sweep.proofs.lane_sweep.LaneSweepLanes.find.Goals as goal

pub invariant_of-self : goal.invariant_of-self
invariant_of-self c =
    let kept = c.self.invariant in
    let rest = c.find_lanes.ensures.rest 0 (omega arith) in
    record {
      count_is = kept.count_is;
      firsts_are = kept.firsts_are;
      tables_are = kept.tables_are;
      all_static = kept.all_static;
      order_is = kept.order_is;
      pinned_are = kept.pinned_are;
      pinned_room = kept.pinned_room;
      wanted_room = kept.wanted_room;
      nets = c.settle_lanes.ensures.nets;
      roomy = record { nets = sym (trits_count c.find_lanes.new.values.ones.items 0) ∙ rest.room.nets; places = rest.room.places };
      none = rest.none;
      masks_are = c.find_lanes.ensures.masks;
      room = c.find_lanes.ensures.seen.room;
      static_found = λ on. c.if-not-self.false;
      found = λ on. subst (λ list. AreSeenFrom c.self.inside.chip.now.core (place_in c.self.inside.chip.now.ranks) list 0 c.find_lanes.new.seen.items) c.deref-6.ensures.value c.find_lanes.ensures.seen;
    }
