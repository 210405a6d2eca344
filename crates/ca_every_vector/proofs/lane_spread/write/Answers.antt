use Rattle.std.proofs.Common.{ℕ, List, ◌≡◌, ◌+◌, ◌<◌, ◌∙◌, inr, length, ap, subst, sym, arith}
use Rattle.ca_flat.specs.Chip.{net_of, output_net, inputs_at, outputs_at}
use Rattle.ca_view.specs.Linked.{place_in}
use Rattle.ca_every_vector.specs.code.Lanes.{AreApart}
use Rattle.ca_every_vector.proofs.LaneRegionLemmas.{masks_apart}
use Rattle.ca_every_vector.proofs.LaneSpreadLemmas.{lanes_put}
use Rattle.ca_every_vector.proofs.VectorLemmas.{row_count}
use Rattle.ca_every_vector.proofs.lane_spread.write.Goals as goal

pub loop-output-preserved : goal.loop-output-preserved
loop-output-preserved c =
    let core = c.args.chip.now.core in
    let output = c.loop-output.output in
    let within : output < outputs_at core c.args.w = let e = c.outputs_at-output-end.ensures in let less = c.loop-output-test.true in omega arith in
    let on : c.pin_net.result ≡ output_net core c.args.w output =
    c.pin_net.ensures ∙ ap (λ k. net_of core c.args.w (k + output)) c.inputs_at-first.ensures in
    let on_chip : output_net core c.args.w output < length core.nets =
    c.linked.ensures.linked.is_chip.on_nets c.args.w (inputs_at core c.args.w + output) c.requires.placed.known (omega arith) in
    lanes_put core (place_in c.args.chip.now.ranks) c.args.u c.args.values.now c.loop-output.others c.put.new.others c.loop-output.changed.items
    c.put.new.changed.items c.args.touched.now c.args.w output c.pin_net.result c.ends_by-ends.result c.loop-output.invariant c.requires.placed (inr c.requires.touched)
    within (sym on) (subst (λ n. n < length core.nets) (sym on) on_chip) c.in_ok-put.ensures.zeros c.in_ok-put.ensures.ones c.in_ok-put.ensures.put

pub ends_by-ends-requires-clause-room : goal.ends_by-ends-requires-clause-room
ends_by-ends-requires-clause-room c =
    let few = c.linked.ensures.nets.few_pins c.args.w c.requires.placed.known in
    let powers = (row_count (inputs_at c.args.chip.now.core c.args.w) few).1 in
    let count = c.find_masks-count.ensures.count in
    let room = c.find_masks-count.ensures.room in
    let same = ap length c.as_slice.ensures.value in
    omega arith

pub ends_by-ends-requires-clause-apart : goal.ends_by-ends-requires-clause-apart
ends_by-ends-requires-clause-apart c =
    subst (λ (list : List ℕ). AreApart list c.find_masks-count.result) (sym c.as_slice.ensures.value)
    (masks_apart c.args.chip.now.core c.args.w c.args.others.now c.find_masks-count.new.masks.items c.find_masks-count.result c.find_masks-count.ensures.count
    c.find_masks-count.ensures.masks)
