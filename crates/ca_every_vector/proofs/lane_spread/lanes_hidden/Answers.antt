use Rattle.std.proofs.Common.{◌∙◌, ◌^◌, ◌-◌, inl, inr, sym, arith}
use Rattle.ca_planes.specs.Trits.{state_in}
use Rattle.ca_every_vector.specs.code.Lanes.{InLanes, IsSameOrInside}
use Rattle.ca_every_vector.proofs.LaneSpreadLemmas.{either_lanes, lanes_without}
use Rattle.ca_every_vector.proofs.lane_spread.lanes_hidden.Goals as goal

pub overflow_cast-net : goal.overflow_cast-net
overflow_cast-net c = let known = c.requires.known in let few = c.linked.ensures.pinned.few_nets in omega arith

pub is_observed-requires : goal.is_observed-requires
is_observed-requires c = let known = c.requires.known in let count = c.linked.ensures.nets.onward_count in omega arith

pub returns-clause-hidden : goal.returns-clause-hidden
returns-clause-hidden c =
    let core = c.args.chip.now.core in
    let same : InLanes c.except-same.result (λ lane. IsSameOrInside core c.args.chip.now.lists (state_in c.args.values.now lane) (state_in c.args.others.now lane) c.args.net) =
    lanes_without c.except-same.result (2 ^ 64 - 1) c.differ.result
    (λ lane. IsSameOrInside core c.args.chip.now.lists (state_in c.args.values.now lane) (state_in c.args.others.now lane) c.args.net) c.except-same.ensures
    (λ lane none. inl (sym (c.get-2.ensures lane) ∙ sym ((c.differ.ensures lane).0 none) ∙ c.get.ensures lane)) in
    either_lanes c.either.result c.except-same.result c.lanes_read.result
    (λ lane. IsSameOrInside core c.args.chip.now.lists (state_in c.args.values.now lane) (state_in c.args.others.now lane) c.args.net) c.either.ensures.lanes same
    (λ lane low has. inr (record { hidden = sym c.is_observed.ensures ∙ c.if-is_observed.false; readers = c.lanes_read.ensures.inside lane low has }))
