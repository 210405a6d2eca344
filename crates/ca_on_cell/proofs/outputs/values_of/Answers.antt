use Rattle.std.proofs.Common.{◌≡◌, ◌≤◌, ◌<◌, refl, ◌∙◌, sym, ap, subst, arith, length, map, [], ◌∷◌, ◌++◌}
use Rattle.std.proofs.Common.{Some, slice_index_or}
use Rattle.std.proofs.lemmas.List.{take_all, length-map}
use Rattle.std.proofs.lemmas.Option.{slice_get-get_or}
use Rattle.std.specs.List.{slice_get}
use Rattle.ca_net.specs.declared.wave.Wave.{Wave}
use Rattle.ca_net.specs.declared.trit.Trit.TheVariants.{Zero}
use Rattle.ca_cell.specs.declared.raw.RawCell.{RawCell}
use Rattle.ca_cell.specs.Raw.{is_output, role_count, output_names}
use Rattle.ca_cell.specs.Rules.{KeepsRules}
use Rattle.ca_cell.proofs.NodeLemmas.{few_inputs}
use Rattle.ca_response.specs.Outputs.{pairs_of}
use Rattle.ca_on_cell.specs.Outputs.{trit_of}
use Rattle.ca_cell.proofs.OutputNameLemmas.{output_count}
use Rattle.ca_on_cell.proofs.OutputLemmas.{reported_pushed, reported_are_ends}
use Rattle.ca_on_cell.proofs.outputs.values_of.Goals as goal

pub pairs-requires-clause-few : goal.pairs-requires-clause-few
pairs-requires-clause-few g c =
    let kept = subst KeepsRules c.cell-cell.ensures.same c.raw.ensures.kept in
    let long : length c.deref.result.now ≡ length c.args.first.now =
    ap length (c.deref.ensures.value ∙ c.in_ok-first.ensures) ∙ length-map c.args.first.now trit_of in
    omega (arith, long, c.requires.first, few_inputs (g.N.CellNet.subcircuit c.args.net.now) kept)

pub get-requires : goal.get-requires
get-requires g c =
    let raw = g.N.CellNet.subcircuit c.args.net.now in
    let is : c.raw.result.now ≡ raw = c.raw.ensures.same ∙ c.cell-cell.ensures.same in
    let are : c.in_ok-pins.pins ≡ output_names raw.pins =
    c.in_ok-pins.ensures.ok ∙ ap (λ (held : RawCell). output_names held.pins) is in
    let outputs : c.outputs-place-end.result ≡ role_count is_output raw.pins =
    c.outputs-place-end.ensures.count ∙ ap (λ (held : RawCell). role_count is_output held.pins) c.cell-cell.ensures.same in
    rw are (omega (arith, output_count raw.pins, outputs, c.loop-place-test.true))

pub loop-place-preserved : goal.loop-place-preserved
loop-place-preserved g c =
    let raw = g.N.CellNet.subcircuit c.args.net.now in
    let outputs : c.outputs-place-end.result ≡ role_count is_output raw.pins =
    c.outputs-place-end.ensures.count ∙ ap (λ (held : RawCell). role_count is_output held.pins) c.cell-cell.ensures.same in
    let items : c.deref-in-loop-place.result.now ≡ c.respond-waves.result.items = c.deref-in-loop-place.ensures.0 in
    let within : c.loop-place.place < length c.deref-in-loop-place.result.now =
    rw items (omega (arith, outputs, c.respond-waves.ensures.limits.count, c.loop-place-test.true)) in
    let other : Wave = record { first = Zero; mid = Zero; last = Zero } in
    let wave = slice_index_or c.deref-in-loop-place.result.now c.loop-place.place other in
    let there : slice_get c.respond-waves.result.items c.loop-place.place ≡ Some wave =
    subst (λ waves. slice_get waves c.loop-place.place ≡ Some wave) items
    (slice_get-get_or c.deref-in-loop-place.result.now c.loop-place.place other within) in
    let pushed : c.push.new.self ≡ c.loop-place.values ++ (record { pin = c.in_ok-copy.field-0; value = wave.last } ∷ []) =
    (c.in_ok-push.ensures).ok in
    reported_pushed c.in_ok-pins.pins c.respond-waves.result.items c.loop-place.place c.get.result.now c.in_ok-copy.field-0 wave wave.last
    c.loop-place.values c.push.new.self c.loop-place.invariant c.get.ensures there (c.in_ok-copy.ensures).ok refl pushed

pub returns : goal.returns
returns g c =
    let raw = g.N.CellNet.subcircuit c.args.net.now in
    let is : c.raw.result.now ≡ raw = c.raw.ensures.same ∙ c.cell-cell.ensures.same in
    let are : c.in_ok-pins.pins ≡ output_names raw.pins =
    c.in_ok-pins.ensures.ok ∙ ap (λ (held : RawCell). output_names held.pins) is in
    let outputs : c.outputs-place-end.result ≡ role_count is_output raw.pins =
    c.outputs-place-end.ensures.count ∙ ap (λ (held : RawCell). role_count is_output held.pins) c.cell-cell.ensures.same in
    let count : length c.in_ok-pins.pins ≡ role_count is_output raw.pins = ap length are ∙ output_count raw.pins in
    let all : length c.in_ok-pins.pins ≤ c.loop-place.place = omega (arith, count, outputs, c.loop-place-test.false) in
    let first = map trit_of c.args.first.now in
    let last = map trit_of c.args.last.now in
    let first_are : c.deref.result.now ≡ first = c.deref.ensures.value ∙ c.in_ok-first.ensures in
    let last_are : c.deref-2.result.now ≡ last = c.deref-2.ensures.value ∙ c.in_ok-last.ensures in
    let pins : c.as_slice.result.now ≡ pairs_of first last =
    c.as_slice.ensures.value ∙ c.pairs.ensures.pairs ∙ ap (λ values. pairs_of values c.deref-2.result.now) first_are
    ∙ ap (λ values. pairs_of first values) last_are in
    let long : length last ≡ length first = omega (
      arith,
      length-map c.args.first.now trit_of,
      length-map c.args.last.now trit_of,
      c.requires.first,
      c.requires.last,
    ) in
    let ends = c.respond-waves.ensures.ends first last long pins in
    let waves : length c.respond-waves.result.items ≡ length c.in_ok-pins.pins = c.respond-waves.ensures.limits.count ∙ sym count in
    record {
      values = rw (c.loop-place.invariant, take_all c.loop-place.place c.in_ok-pins.pins all)
          (reported_are_ends raw (g.N.Network.circuit c.args.net.now) first last c.in_ok-pins.pins c.respond-waves.result.items are waves ends);
    }
