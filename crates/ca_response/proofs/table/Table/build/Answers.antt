use Rattle.std.proofs.Common.{◌≡◌, ◌^◌, length, ap, sym, ◌∙◌, subst, arith}
use Rattle.std.specs.List.{All}
use Rattle.ca_net.specs.Wave.{IsWave}
use Rattle.ca_cell.specs.declared.raw.RawCell.{RawCell}
use Rattle.ca_cell.specs.Raw.{is_input, role_count}
use Rattle.ca_response.specs.code.Decoding.{pins_at}
use Rattle.ca_response.proofs.GivesLemmas.{gives}
use Rattle.ca_response.proofs.TableLemmas.{pins_count, pins_are_waves, built_more, built_all, entries_pushed}
use Rattle.ca_response.proofs.table.Table.build.Goals as goal

pub settle_first-requires-clause-pins : goal.settle_first-requires-clause-pins
settle_first-requires-clause-pins g c =
    ap length (c.as_slice.ensures.value ∙ c.pins_at-pins.ensures) ∙ pins_count c.inputs-inputs.result c.loop-place.place
    ∙ c.inputs-inputs.ensures.count ∙ ap (λ (held : RawCell). role_count is_input held.pins) c.cell.ensures.same

pub respond_from_first-requires-clause-pins : goal.respond_from_first-requires-clause-pins
respond_from_first-requires-clause-pins g c =
    ap length (c.as_slice-in-loop-place.ensures.value ∙ c.pins_at-pins.ensures) ∙ pins_count c.inputs-inputs.result c.loop-place.place
    ∙ c.inputs-inputs.ensures.count ∙ ap (λ (held : RawCell). role_count is_input held.pins) c.cell.ensures.same

pub respond_from_first-requires-clause-waves : goal.respond_from_first-requires-clause-waves
respond_from_first-requires-clause-waves g c =
    subst (All IsWave) (sym (c.as_slice-in-loop-place.ensures.value ∙ c.pins_at-pins.ensures)) (pins_are_waves c.inputs-inputs.result c.loop-place.place)

pub loop-place-preserved : goal.loop-place-preserved
loop-place-preserved g c =
    let raw = g.N.CellNet.subcircuit c.args.net.now in
    let inputs : c.inputs-inputs.result ≡ role_count is_input raw.pins =
    c.inputs-inputs.ensures.count ∙ ap (λ (held : RawCell). role_count is_input held.pins) c.cell.ensures.same in
    record {
      built = built_more raw (g.N.Network.circuit c.args.net.now) c.loop-place.place _ _ c.as_slice-in-loop-place.result.now c.respond_from_first.result.items
          c.loop-place.invariant.built
          (c.as_slice-in-loop-place.ensures.value ∙ c.pins_at-pins.ensures ∙ ap (λ k. pins_at k c.loop-place.place) inputs)
          (gives _ _ _ _ c.respond_from_first.ensures.limits) c.respond_from_first.ensures.waves
          (entries_pushed c.loop-place.entries.items c.push.new.self.items c.respond_from_first.result c.in_ok-push.ensures.items);
      held = c.respond_from_first.ensures.kept.grouped;
    }

pub returns-clause-ok : goal.returns-clause-ok
returns-clause-ok g c =
    let raw = g.N.CellNet.subcircuit c.args.net.now in
    let inputs : c.inputs-inputs.result ≡ role_count is_input raw.pins =
    c.inputs-inputs.ensures.count ∙ ap (λ (held : RawCell). role_count is_input held.pins) c.cell.ensures.same in
    let last : c.loop-place.place ≡ c.entry_count-place-end.result = omega arith in
    built_all raw (g.N.Network.circuit c.args.net.now) c.loop-place.place _ c.requires.few
    (last ∙ c.entry_count-place-end.ensures ∙ ap (λ k. 11 ^ k) inputs) c.loop-place.invariant.built
