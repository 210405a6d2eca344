use Rattle.std.proofs.Common.{◌≡◌, ℕ, ◌+◌, ◌<◌, ◌^◌, arith, ap, ◌∙◌, sym, subst, length, List}
use Rattle.std.specs.Prelude.{slice_index}
use Rattle.ca_flat.specs.Chip.{net_of, output_net, inputs_at, outputs_at}
use Rattle.ca_flat.specs.Codes.{bit_trit}
use Rattle.ca_planes.specs.Plane.{has_lane, lane_at}
use Rattle.ca_static.specs.LastTable.{last_at}
use Rattle.ca_view.specs.Linked.{place_in}
use Rattle.ca_view.specs.NetLists.{input_nets}
use Rattle.ca_sweep.specs.code.Changes.{IsWrittenTo}
use Rattle.ca_sweep.specs.code.Lanes.{number_to, values_in}
use Rattle.ca_sweep.proofs.ChangeLemmas.{written_none, written_more}
use Rattle.ca_sweep.proofs.LaneLemmas.{bit_given, below_there, ends_there, masks_same, small_powers}
use Rattle.ca_sweep.proofs.lane_values.LaneValues.evaluate.Goals as goal

pub loop-output-init : goal.loop-output-init
loop-output-init c = record {
  written = λ lane within. written_none c.args.chip.now.core (place_in c.args.chip.now.ranks) c.linked.ensures.linked.is_chip c.args.w c.requires.placed.known _ (values_in c.args.self.now lane);
  room = c.requires.room;
}

pub find_masks-count-requires-clause-few : goal.find_masks-count-requires-clause-few
find_masks-count-requires-clause-few c =
    let few = c.linked.ensures.nets.few_pins c.args.w c.requires.placed.known in
    let count = (c.linked.ensures.nets.input_pins c.args.w c.requires.placed.known).counted in
    let same = ap length c.input_pins.ensures.same in
    omega arith

pub given-plane-requires-clause-count : goal.given-plane-requires-clause-count
given-plane-requires-clause-count c =
    c.find_masks-count.ensures.count ∙ ap (λ (list : List ℕ). 2 ^ length list) c.input_pins.ensures.same
    ∙ ap (λ n. 2 ^ n) (c.linked.ensures.nets.input_pins c.args.w c.requires.placed.known).counted ∙ sym c.requires.table.count

pub given-plane-requires-clause-room : goal.given-plane-requires-clause-room
given-plane-requires-clause-room c =
    let few = c.linked.ensures.nets.few_pins c.args.w c.requires.placed.known in
    let count = (c.linked.ensures.nets.input_pins c.args.w c.requires.placed.known).counted in
    let same = ap length c.input_pins.ensures.same in
    let small = small_powers (length c.input_pins.result.now) (omega arith) in
    let is = c.find_masks-count.ensures.count in
    let room = c.find_masks-count.ensures.room in
    let len = ap length c.deref-in-loop-output.ensures.value in
    omega arith

pub given-plane-requires-clause-output : goal.given-plane-requires-clause-output
given-plane-requires-clause-output c = λ number less.
    let outputs : c.outputs_at-output-end.result ≡ outputs_at c.args.chip.now.core c.args.w = c.outputs_at-output-end.ensures in
    let count = c.requires.table.rows number (subst (λ n. number < n) c.requires.table.count less) in
    let below = c.loop-output-test.true in
    omega arith

pub loop-output-preserved : goal.loop-output-preserved
loop-output-preserved c =
    let core = c.args.chip.now.core in
    let place_of = place_in c.args.chip.now.ranks in
    let is_chip = c.linked.ensures.linked.is_chip in
    let known = c.requires.placed.known in
    let nets = input_nets c.args.chip.now.lists c.args.w in
    let pins = c.linked.ensures.nets.input_pins c.args.w c.requires.placed.known in
    let inputs : c.inputs_at-first.result ≡ inputs_at core c.args.w = c.inputs_at-first.ensures in
    let outputs : c.outputs_at-output-end.result ≡ outputs_at core c.args.w = c.outputs_at-output-end.ensures in
    let below : c.loop-output.output < outputs_at core c.args.w = let l = c.loop-output-test.true in omega arith in
    let net_is : c.pin_net.result ≡ output_net core c.args.w c.loop-output.output = c.pin_net.ensures ∙ ap (λ k. net_of core c.args.w (k + c.loop-output.output)) inputs in
    let on_nets : (pin : ℕ) → pin < inputs_at core c.args.w → net_of core c.args.w pin < length c.args.self.now.ones.items =
    λ pin less. let on = c.linked.ensures.linked.is_chip.on_nets c.args.w pin c.requires.placed.known (omega arith) in let room = c.requires.room.nets in omega arith in
    record {
      written = λ lane within.
          let number = number_to (λ pin. lane_at c.args.self.now.ones.items (slice_index (input_nets c.args.chip.now.lists c.args.w) pin) lane) (inputs_at c.args.chip.now.core c.args.w) in
          let small = below_there core c.args.w c.args.self.now.ones.items nets pins on_nets lane in
          let less = subst (λ n. number < n) (sym c.requires.table.count) small in
          let masks = masks_same c.args.self.now.ones.items c.deref.result.now nets c.input_pins.result.now c.find_masks-count.new.masks.items c.deref-in-loop-output.result.now
          (inputs_at core c.args.w) lane c.deref.ensures.value c.input_pins.ensures.same c.deref-in-loop-output.ensures.value pins.counted (c.find_masks-count.ensures.masks lane within) in
          let masks_are = λ (k : ℕ) (k_less : k < length c.args.table.now). masks k (subst (λ n. k < n) c.requires.table.count k_less) in
          let definite = (ends_there core c.args.w c.args.self.now.ones.items nets pins on_nets lane c.args.table.now c.loop-output.output c.requires.table below).definite in
          written_more core place_of is_chip c.args.w known (last_at c.args.table.now number) c.loop-output.output c.pin_net.result (bit_trit (has_lane c.given-plane.result lane))
          (values_in c.args.self.now lane) (values_in c.loop-output.self lane) (values_in c.put.new.self lane) below net_is
          (bit_given (has_lane c.given-plane.result lane) (last_at c.args.table.now number c.loop-output.output)
          (c.given-plane.ensures.one lane number less masks_are) (c.given-plane.ensures.other lane number less masks_are) definite)
          (c.loop-output.invariant.written lane within) (c.put.ensures.put lane);
      room = c.put.ensures.room;
    }

pub returns-clause-evaluated : goal.returns-clause-evaluated
returns-clause-evaluated c = λ lane within.
    let core = c.args.chip.now.core in
    let nets = input_nets c.args.chip.now.lists c.args.w in
    let pins = c.linked.ensures.nets.input_pins c.args.w c.requires.placed.known in
    let outputs : c.outputs_at-output-end.result ≡ outputs_at core c.args.w = c.outputs_at-output-end.ensures in
    let on_nets : (pin : ℕ) → pin < inputs_at core c.args.w → net_of core c.args.w pin < length c.args.self.now.ones.items =
    λ pin less. let on = c.linked.ensures.linked.is_chip.on_nets c.args.w pin c.requires.placed.known (omega arith) in let room = c.requires.room.nets in omega arith in
    let number = number_to (λ pin. lane_at c.args.self.now.ones.items (slice_index (input_nets c.args.chip.now.lists c.args.w) pin) lane) (inputs_at c.args.chip.now.core c.args.w) in
    record {
      outputs = last_at c.args.table.now number;
      written = subst (λ n. IsWrittenTo c.args.chip.now.core (place_in c.args.chip.now.ranks) c.args.w n (last_at c.args.table.now number) (values_in c.args.self.now lane) (values_in c.loop-output.self lane))
          (let e : c.loop-output.output ≡ outputs_at core c.args.w = omega arith in e) (c.loop-output.invariant.written lane within);
      ends = λ output less. ends_there core c.args.w c.args.self.now.ones.items nets pins on_nets lane c.args.table.now output c.requires.table less;
    }
