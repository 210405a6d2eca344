use Rattle.std.proofs.Common.{◌≡◌, ◌+◌, ◌<◌, ◌∙◌, ap, arith, length, sym, subst}
use Rattle.ca_flat.specs.Chip.{inputs_at, outputs_at, net_of, output_net}
use Rattle.ca_view.specs.Linked.{place_in}
use Rattle.ca_every_vector.proofs.LaneRegionLemmas.{ends_more, written_more}
use Rattle.ca_every_vector.proofs.lane_region.write_ends.Goals as goal

pub loop-output-preserved : goal.loop-output-preserved
loop-output-preserved c =
    let core = c.args.chip.now.core in
    let is = c.linked.ensures.linked.is_chip in
    let known = c.requires.placed.known in
    let output = c.loop-output.output in
    let less : c.loop-output.output < outputs_at c.args.chip.now.core c.args.w = (let low = c.loop-output-test.true in let e = c.outputs_at-output-end.ensures in omega arith) in
    let on : c.pin_net.result ≡ output_net c.args.chip.now.core c.args.w c.loop-output.output =
    c.pin_net.ensures ∙ ap (λ k. net_of c.args.chip.now.core c.args.w (k + c.loop-output.output)) c.inputs_at-first.ensures in
    let within : c.pin_net.result < length c.args.chip.now.core.nets =
    subst (λ n. n < length c.args.chip.now.core.nets) (sym on) (is.on_nets c.args.w (inputs_at c.args.chip.now.core c.args.w + c.loop-output.output) known (omega arith)) in
    let before = c.loop-output.invariant in
    record {
      nets = record { zeros = c.set.ensures.zeros ∙ before.nets.zeros; ones = c.set.ensures.ones ∙ before.nets.ones };
      ends = ends_more core (place_in c.args.chip.now.ranks) is c.args.w known c.loop-output.values c.set.new.self output c.pin_net.result c.ends_by-ends.result less on c.set.ensures.states
          c.args.table.now c.args.masks.now c.args.count before.nets within c.ends_by-ends.ensures before.ends;
      written = written_more core (place_in c.args.chip.now.ranks) is c.args.w known c.loop-output.values c.set.new.self output c.pin_net.result c.ends_by-ends.result less on c.set.ensures.states
          c.args.values.now before.written;
    }
