use Rattle.std.proofs.Common.{◌∙◌, length, ap, None}
use Rattle.std.proofs.lemmas.List.{length-set}
use Rattle.ca_view.specs.Linked.{place_in}
use Rattle.ca_view.specs.Places.{cell_number}
use Rattle.ca_sim.specs.code.Network.{IsUnderway}
use Rattle.ca_confined.proofs.ConfinedLemmas.{twin_in, twin_given, confined_settled, confined_fed}
use Rattle.ca_confined.proofs.confined.Confined.set.Goals as goal

pub settle-requires-2-clause-twin : goal.settle-requires-2-clause-twin
settle-requires-2-clause-twin c = λ x is.
    let inside = c.self.inside in
    let core = inside.chip.now.core in
    let place_of = place_in inside.chip.now.ranks in
    let kept = c.self.invariant in
    let under : IsUnderway core place_of None c.set.new.self c.feed.new.self =
    confined_fed core place_of (cell_number inside.chip.now.chip) kept.linked kept.pinned None c.input_of-input.result c.input_count-inputs.result c.args.bit _ inside.bits c.set.new.self
    inside.scope.places inside.good c.feed.new.self c.input_count-inputs.ensures c.input_of-input.ensures.within c.input_of-input.ensures.of c.set.ensures kept.good_is c.feed.ensures.fed c.feed.ensures.ready in
    twin_given core place_of inside.scope.places _ x is (twin_in core place_of c.set.new.self inside.scope.places c.settle.new.network
    (confined_settled core place_of None c.set.new.self inside.scope.places c.feed.new.self c.settle.new.network under c.settle.ensures.settled))

pub invariant_of-self : goal.invariant_of-self
invariant_of-self c =
    let inside = c.self.inside in
    let core = inside.chip.now.core in
    let place_of = place_in inside.chip.now.ranks in
    let kept = c.self.invariant in
    let good : IsUnderway core place_of None c.set.new.self c.feed.new.self =
    confined_fed core place_of (cell_number inside.chip.now.chip) kept.linked kept.pinned None c.input_of-input.result c.input_count-inputs.result c.args.bit _ inside.bits c.set.new.self
    inside.scope.places inside.good c.feed.new.self c.input_count-inputs.ensures c.input_of-input.ensures.within c.input_of-input.ensures.of c.set.ensures kept.good_is c.feed.ensures.fed c.feed.ensures.ready in
    let faulty : IsUnderway core place_of inside.aim c.set.new.self c.feed-2.new.self =
    confined_fed core place_of (cell_number inside.chip.now.chip) kept.linked kept.pinned inside.aim c.input_of-input.result c.input_count-inputs.result c.args.bit _ inside.bits c.set.new.self
    inside.scope.places inside.faulty c.feed-2.new.self c.input_count-inputs.ensures c.input_of-input.ensures.within c.input_of-input.ensures.of c.set.ensures kept.faulty_is c.feed-2.ensures.fed c.feed-2.ensures.ready in
    record {
      linked = kept.linked;
      pinned = kept.pinned;
      aim_is = kept.aim_is;
      count = ap length c.set.ensures ∙ length-set inside.bits c.args.bit _ ∙ kept.count;
      good_is = confined_settled core place_of None c.set.new.self inside.scope.places c.feed.new.self c.settle.new.network good c.settle.ensures.settled;
      faulty_is = confined_settled core place_of inside.aim c.set.new.self inside.scope.places c.feed-2.new.self c.settle-2.new.network faulty c.settle-2.ensures.settled;
      unset_are = kept.unset_are;
      room = kept.room;
      scope_of = kept.scope_of;
      scope_at = kept.scope_at;
    }
