use Rattle.std.proofs.Common.{◌≡◌, ◌+◌, ◌∙◌, ℕ, length, ap, arith, length-append, ◌∷◌, []}
use Rattle.ca_net.specs.declared.wave.Wave.{Wave}
use Rattle.ca_cell.specs.declared.raw.RawCell.{RawCell}
use Rattle.ca_cell.specs.Raw.{is_input, is_output, role_count}
use Rattle.ca_row_block.specs.Rows.{end_at}
use Rattle.ca_row_block.proofs.RowLemmas.{pushed_end, ends_of_waves}
use Rattle.ca_row_block.proofs.settle.row_ends.Goals as goal

pub loop-place-preserved : goal.loop-place-preserved
loop-place-preserved g c =
    let before = c.loop-place.invariant in
    let f = λ (k : ℕ). end_at c.args.room.now (2 + c.inputs-first.result + k) c.args.lane in
    let is : c.pair.result.last ≡ end_at c.args.room.now (2 + c.inputs-first.result + c.loop-place.place) c.args.lane =
    ap (λ (w : Wave). w.last) c.pair.ensures ∙ c.end-value.ensures in
    record {
      count = ap length c.push.ensures.items ∙ (let e = length-append c.loop-place.waves.items (c.pair.result ∷ []) in let n = before.count in omega (arith, e, n));
      ends = rw c.push.ensures.items (pushed_end f c.loop-place.waves.items c.pair.result c.loop-place.place before.count is before.ends);
    }

pub returns-clause-ends : goal.returns-clause-ends
returns-clause-ends g c number holds =
    let raw = g.N.CellNet.subcircuit c.args.net.now in
    let net = g.N.Network.circuit c.args.net.now in
    let inputs : c.inputs-first.result ≡ role_count is_input raw.pins =
    c.inputs-first.ensures.count ∙ ap (λ (held : RawCell). role_count is_input held.pins) c.cell-cell.ensures.same in
    let outputs : c.outputs-place-end.result ≡ role_count is_output raw.pins =
    c.outputs-place-end.ensures.count ∙ ap (λ (held : RawCell). role_count is_output held.pins) c.cell-cell.ensures.same in
    let count : length c.loop-place.waves.items ≡ role_count is_output raw.pins =
    omega (arith, c.loop-place.invariant.count, c.loop-place.auto.place-end, c.loop-place-test.false, outputs) in
    ends_of_waves raw net number c.args.lane (2 + c.inputs-first.result) c.args.room.now c.loop-place.waves.items holds (ap (λ n. 2 + n) inputs) count
    c.loop-place.invariant.ends
