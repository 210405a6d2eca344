use Rattle.std.proofs.Common.{◌≡◌, ◌+◌, ◌<◌, ◌∙◌, inl, refl, length, ap, subst, sym, arith}
use Rattle.ca_flat.specs.Chip.{net_of, output_net, inputs_at, outputs_at}
use Rattle.ca_view.specs.Linked.{place_in}
use Rattle.ca_every_vector.proofs.LaneSpreadLemmas.{lanes_put}
use Rattle.ca_every_vector.proofs.lane_stays.flip.Goals as goal

pub loop-output-preserved : goal.loop-output-preserved
loop-output-preserved c =
    let core = c.args.chip.now.core in
    let output = c.loop-output.output in
    let within : output < outputs_at core c.args.u = let e = c.outputs_at-output-end.ensures in let less = c.loop-output-test.true in omega arith in
    let on : c.pin_net-net.result ≡ output_net core c.args.u output =
    c.pin_net-net.ensures ∙ ap (λ k. net_of core c.args.u (k + output)) c.inputs_at-first.ensures in
    let on_chip : output_net core c.args.u output < length core.nets =
    c.linked.ensures.linked.is_chip.on_nets c.args.u (inputs_at core c.args.u + output) c.requires.placed.known (omega arith) in
    lanes_put core (place_in c.args.chip.now.ranks) c.args.u c.args.values.now c.loop-output.others c.put.new.others c.loop-output.changed.items
    c.put.new.changed.items c.args.touched.now c.args.u output c.pin_net-net.result c.flipped-value.result c.loop-output.invariant c.requires.placed (inl refl)
    within (sym on) (subst (λ n. n < length core.nets) (sym on) on_chip) c.in_ok-put.ensures.zeros c.in_ok-put.ensures.ones c.in_ok-put.ensures.put
