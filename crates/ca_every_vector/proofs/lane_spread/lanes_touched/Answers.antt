use Rattle.std.proofs.Common.{◌+◌, arith, take}
use Rattle.ca_planes.specs.Trits.{state_in}
use Rattle.ca_every_vector.specs.Inside.{IsEvaluatedInside}
use Rattle.ca_every_vector.specs.code.Lanes.{values_of}
use Rattle.ca_every_vector.specs.code.Spread.{AreInside}
use Rattle.ca_every_vector.proofs.TableLemmas.{all_more, all_taken}
use Rattle.ca_every_vector.proofs.LaneSpreadLemmas.{both_lanes}
use Rattle.ca_every_vector.proofs.lane_spread.lanes_touched.Goals as goal

pub loop-place-preserved : goal.loop-place-preserved
loop-place-preserved c =
    let core = c.args.chip.now.core in
    let values = c.args.values.now in
    let others = c.args.others.now in
    let place = c.loop-place.place in
    record {
      inside = both_lanes c.both-lanes.result c.loop-place.lanes c.lanes_inside-inside.result
          (λ lane. AreInside core (state_in values lane) (state_in others lane) (take place c.args.touched.now))
          (λ lane. IsEvaluatedInside core c.entry.result (values_of values lane) (values_of others lane))
          (λ lane. AreInside core (state_in values lane) (state_in others lane) (take (place + 1) c.args.touched.now))
          c.both-lanes.ensures c.loop-place.invariant.inside c.lanes_inside-inside.ensures.inside
          (λ lane low all here. all_more (λ w. IsEvaluatedInside core w (values_of values lane) (values_of others lane)) c.args.touched.now place c.entry.result c.entry.ensures here all);
      room = c.lanes_inside-inside.ensures.room;
    }

pub returns-clause-inside : goal.returns-clause-inside
returns-clause-inside c = λ lane low has.
    all_taken (λ w. IsEvaluatedInside c.args.chip.now.core w (values_of c.args.values.now lane) (values_of c.args.others.now lane)) c.args.touched.now c.loop-place.place
    (let past = c.loop-place-test.false in omega arith) (c.loop-place.invariant.inside lane low has)
