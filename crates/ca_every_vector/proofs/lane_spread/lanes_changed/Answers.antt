use Rattle.std.proofs.Common.{◌+◌, arith, take}
use Rattle.std.specs.List.{All}
use Rattle.ca_planes.specs.Trits.{state_in}
use Rattle.ca_every_vector.specs.code.Lanes.{IsSameOrInside}
use Rattle.ca_every_vector.proofs.TableLemmas.{all_more, all_taken}
use Rattle.ca_every_vector.proofs.LaneSpreadLemmas.{both_lanes}
use Rattle.ca_every_vector.proofs.lane_spread.lanes_changed.Goals as goal

pub loop-place-preserved : goal.loop-place-preserved
loop-place-preserved c =
    let core = c.args.chip.now.core in
    let values = c.args.values.now in
    let others = c.args.others.now in
    let place = c.loop-place.place in
    record {
      hidden = both_lanes c.both-lanes.result c.loop-place.lanes c.lanes_hidden-hidden.result
          (λ lane. All (IsSameOrInside core c.args.chip.now.lists (state_in values lane) (state_in others lane)) (take place c.args.changed.now))
          (λ lane. IsSameOrInside core c.args.chip.now.lists (state_in values lane) (state_in others lane) c.entry.result)
          (λ lane. All (IsSameOrInside core c.args.chip.now.lists (state_in values lane) (state_in others lane)) (take (place + 1) c.args.changed.now))
          c.both-lanes.ensures c.loop-place.invariant.hidden c.lanes_hidden-hidden.ensures.hidden
          (λ lane low all here. all_more (IsSameOrInside core c.args.chip.now.lists (state_in values lane) (state_in others lane)) c.args.changed.now place c.entry.result c.entry.ensures here all);
      room = c.lanes_hidden-hidden.ensures.room;
    }

pub returns-clause-hidden : goal.returns-clause-hidden
returns-clause-hidden c = λ lane low has.
    all_taken (IsSameOrInside c.args.chip.now.core c.args.chip.now.lists (state_in c.args.values.now lane) (state_in c.args.others.now lane)) c.args.changed.now c.loop-place.place
    (let past = c.loop-place-test.false in omega arith) (c.loop-place.invariant.hidden lane low has)
