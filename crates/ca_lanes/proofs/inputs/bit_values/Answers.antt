use Rattle.std.proofs.Common.{◌∙◌, ◌||◌, ◌==◌, ap}
use Rattle.ca_lanes.specs.Plane.{lane_of}
use Rattle.ca_lanes.specs.Choice.{choice_of}
use Rattle.ca_lanes.specs.code.Choice.{choice_with}
use Rattle.ca_lanes.proofs.PairLemmas.{bit_read, one_pair_more}
use Rattle.ca_lanes.proofs.inputs.bit_values.Goals as goal

pub loop-lane-preserved : goal.loop-lane-preserved
loop-lane-preserved c lane =
    let pairs = c.args.pairs.now in
    let n = c.loop-lane.lane in
    let pair = c.index-pairs-lane.result in
    let bit = c.get.result in
    let read = bit_read pair c.args.place bit c.get.ensures in
    one_pair_more pairs c.args.place n lane pair bit (lane_of c.with-only.result lane) (choice_of c.loop-lane.values lane) (choice_of c.with-values.result lane)
    c.loop-lane-test.true c.index-pairs-lane.is read (c.with-only.ensures lane ∙ ap (λ b. (lane == n) || b) (c.none.ensures lane)) (c.loop-lane.invariant lane)
    (c.with-values.ensures lane ∙ ap (choice_with (choice_of c.loop-lane.values lane) (lane_of c.with-only.result lane)) c.bit_value.ensures)
