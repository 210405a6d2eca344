use Rattle.std.proofs.Common.{◌∙◌, arith, inl, sym}
use Rattle.ca_every_vector.proofs.LaneRegionLemmas.{within_put_lanes}
use Rattle.ca_every_vector.proofs.lane_region.set_lanes.Goals as goal

pub loop-place-preserved : goal.loop-place-preserved
loop-place-preserved c = record {
  nets = record { zeros = c.set.ensures.zeros ∙ c.loop-place.invariant.nets.zeros; ones = c.set.ensures.ones ∙ c.loop-place.invariant.nets.ones };
  within = within_put_lanes c.args.chip.now.core c.args.inputs.now c.args.parts.now c.loop-place.values c.set.new.self c.input_net-net.result c.digit_lanes.result c.loop-place.invariant.within
      (inl (record { place = c.loop-place.place; within = (let less = c.loop-place-test.true in omega arith); on = sym c.input_net-net.ensures.net })) c.set.ensures.states;
}
