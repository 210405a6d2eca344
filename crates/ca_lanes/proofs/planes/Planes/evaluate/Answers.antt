use Rattle.std.proofs.Common.{◌∙◌, length, ap, sym}
use Rattle.std.proofs.lemmas.List.{map-set, length-set}
use Rattle.ca_lanes.specs.Plane.{lane_of}
use Rattle.ca_lanes.specs.Choice.{choice_of, choices_of}
use Rattle.ca_lanes.specs.Netlist.{output_of}
use Rattle.ca_lanes.specs.code.Allowed.{lanes_of}
use Rattle.ca_lanes.proofs.EvaluatedLemmas.{evaluated_more, first_same, last_same, length-choices_of}
use Rattle.ca_lanes.proofs.planes.Planes.evaluate.Goals as goal

pub loop-output-preserved : goal.loop-output-preserved
loop-output-preserved c =
    let rows = c.args.rows.now in
    let pins = c.args.pins.now in
    let done = c.loop-output.output in
    let start = c.args.self.now in
    let now = c.loop-output.self in
    let before = c.loop-output.invariant in
    record {
      evaluated = λ lane. evaluated_more rows.values.items rows.inputs rows.outputs (length start.firsts.items) done pins (lane_of start.loaded lane)
          (choices_of start.firsts.items lane) (choices_of start.lasts.items lane) c.requires.pins c.loop-output-test.true
          (choices_of now.firsts.items lane) (choices_of now.lasts.items lane) _ _ (choice_of c.first_values-first.result lane) (choice_of c.last_values-last.result lane)
          (length-choices_of now.firsts.items lane ∙ before.count) (length-choices_of now.lasts.items lane ∙ sym now.one_of_each ∙ before.count) (before.evaluated lane)
          (map-set (λ net. choice_of net lane) now.firsts.items (output_of rows.inputs pins done) c.first_values-first.result)
          (map-set (λ net. choice_of net lane) now.lasts.items (output_of rows.inputs pins done) c.last_values-last.result)
          (c.first_values-first.ensures lane ∙ first_same _ _ _ _ _ _ rows.outputs done
          (ap (λ masks. lanes_of masks lane) c.deref-in-loop-output.ensures.value ∙ before.first lane) c.deref.ensures.value
          (ap length c.deref-in-loop-output.ensures.value ∙ before.first_count))
          (c.last_values-last.ensures lane ∙ last_same _ _ _ _ _ _ _ _ rows.outputs done
          (ap (λ masks. lanes_of masks lane) c.deref-in-loop-output-4.ensures.value ∙ before.first lane)
          (ap (λ masks. lanes_of masks lane) c.deref-in-loop-output-5.ensures.value ∙ before.last lane) c.deref-in-loop-output-2.ensures.value
          (ap length c.deref-in-loop-output-5.ensures.value ∙ before.last_count));
      first = before.first;
      last = before.last;
      first_count = before.first_count;
      last_count = before.last_count;
      loaded = before.loaded;
      count = length-set now.firsts.items (output_of rows.inputs pins done) c.first_values-first.result ∙ before.count;
    }
