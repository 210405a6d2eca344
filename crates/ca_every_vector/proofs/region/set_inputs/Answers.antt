use Rattle.std.proofs.Common.{arith, inl, sym, length}
use Rattle.ca_every_vector.proofs.RegionLemmas.{put_room, within_put}
use Rattle.ca_every_vector.proofs.region.set_inputs.Goals as goal

pub loop-place-preserved : goal.loop-place-preserved
loop-place-preserved c = record {
  nets = put_room c.loop-place.values c.give.new.values c.input_net-net.result (length c.args.chip.now.core.nets) c.digit.result c.loop-place.invariant.nets c.give.ensures;
  within = within_put c.args.chip.now.core c.args.inputs.now c.args.parts.now c.loop-place.values c.give.new.values c.input_net-net.result c.digit.result c.loop-place.invariant.within
      (inl (record { place = c.loop-place.place; within = (let less = c.loop-place-test.true in omega arith); on = sym c.input_net-net.ensures.net })) c.give.ensures;
}
