use Rattle.std.proofs.Common.{◌≡◌, ◌<◌, ◌+◌, ◌∙◌, length, get_or, ap, ap₂, sym, subst, arith, Some}
use Rattle.std.specs.Prelude.{slice_get}
use Rattle.std.proofs.lemmas.Option.{slice_get-get_or}
use Rattle.std.proofs.lemmas.List.Elements.{All-get_or}
use Rattle.ca_flat.specs.Chip.{instance_at, inputs_at, outputs_at}
use Rattle.ca_lanes.specs.Plane.{lane_of}
use Rattle.ca_lanes.specs.Choice.{choices_of}
use Rattle.ca_lanes.specs.Netlist.{IsInstanceReadable}
use Rattle.ca_lanes.specs.code.Sweep.{IsLoadedTo}
use Rattle.ca_lanes.proofs.EvaluatedLemmas.{evaluated_same}
use Rattle.ca_lanes.proofs.LoadLemmas.{loaded_more}
use Rattle.ca_lanes.proofs.sweep.sweep.Goals as goal

pub loop-place-preserved : goal.loop-place-preserved
loop-place-preserved c =
    let order = c.args.order.now in
    let instances = c.args.instances.now in
    let place = c.loop-place.place in
    let u = get_or order place 0 in
    let instance = c.index-instances-order.result in
    let rows = c.index-goods-instance.result in
    let known : u < length instances = All-get_or (λ n. n < length instances) order place 0 c.loop-place-test.true c.requires.order in
    let found : slice_get instances u ≡ Some instance = slice_get-get_or instances u instance known ∙ ap Some (sym c.index-instances-order.is) in
    let placed : IsInstanceReadable (length c.args.planes.now.firsts.items) c.args.goods.now instance =
    subst (IsInstanceReadable (length c.args.planes.now.firsts.items) c.args.goods.now) (sym c.index-instances-order.is)
    (All-get_or (IsInstanceReadable (length c.args.planes.now.firsts.items) c.args.goods.now) instances u instance known c.requires.placed) in
    let found_rows : slice_get c.args.goods.now instance.cell ≡ Some rows =
    slice_get-get_or c.args.goods.now instance.cell rows placed.known ∙ ap Some (sym c.index-goods-instance.is) in
    record {
      loaded = λ chip rank pair lane is orders are on inputs.
          let of = are.rows u instance rows found found_rows in
          let pins = are.pins u instance found in
          let count : length (instance_at chip u).pins ≡ inputs_at chip u + outputs_at chip u =
          ap length (sym pins) ∙ (placed.pins rows found_rows).count ∙ ap₂ (λ i o. i + o) of.inputs of.outputs in
          loaded_more chip rank pair order is orders place c.loop-place-test.true (choices_of c.loop-place.planes.firsts.items lane) (choices_of c.loop-place.planes.lasts.items lane)
          (choices_of c.evaluate.new.self.firsts.items lane) (choices_of c.evaluate.new.self.lasts.items lane)
          (c.loop-place.invariant.loaded chip rank pair lane is orders are on inputs) rows.values.items of.values count
          (evaluated_same rows.values.items _ _ _ _ _ _ _ _ _ _ _ _ of.inputs of.outputs (c.deref.ensures.value ∙ pins)
          (ap (λ plane. lane_of plane lane) c.loop-place.invariant.lanes ∙ on) (c.evaluate.ensures.evaluated lane));
      lanes = c.evaluate.ensures.loaded ∙ c.loop-place.invariant.lanes;
      count = c.evaluate.ensures.count ∙ c.loop-place.invariant.count;
    }

pub returns-clause-loaded : goal.returns-clause-loaded
returns-clause-loaded c chip rank pair lane is orders are on inputs =
    let all : c.loop-place.place ≡ length c.args.order.now = omega (arith, c.loop-place.auto.place-end, c.loop-place-test.false) in
    subst (λ n. IsLoadedTo chip pair c.args.order.now n (choices_of c.loop-place.planes.firsts.items lane) (choices_of c.loop-place.planes.lasts.items lane)) all
    (c.loop-place.invariant.loaded chip rank pair lane is orders are on inputs)
