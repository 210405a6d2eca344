use Rattle.std.proofs.Common.{◌≡◌, ◌+◌, ◌-◌, ◌*◌, ◌<◌, ◌∙◌, length, min, ap, subst, arith}
use Rattle.ca_cell.specs.declared.raw.RawCell.{RawCell}
use Rattle.ca_cell.specs.Raw.{is_input, is_output, role_count}
use Rattle.ca_row_block.specs.Rows.{HoldsRow}
use Rattle.ca_matrix.specs.code.Filled.{IsFilledTo, row_count}
use Rattle.ca_matrix.proofs.FillLemmas.{more_filled, row_room}
use Rattle.ca_matrix.proofs.BlockLemmas.{rows_are}
use Rattle.ca_matrix.proofs.fill.fill_block.Goals as goal

pub put-requires-clause-room : goal.put-requires-clause-room
put-requires-clause-room g c =
    let raw = g.N.CellNet.subcircuit c.args.net.now in
    let inputs : c.inputs.result ≡ role_count is_input raw.pins =
    c.inputs.ensures.count ∙ ap (λ (held : RawCell). role_count is_input held.pins) c.cell-cell.ensures.same in
    let outputs : c.outputs.result ≡ role_count is_output raw.pins =
    c.outputs.ensures.count ∙ ap (λ (held : RawCell). role_count is_output held.pins) c.cell-cell.ensures.same in
    let rows = rows_are raw c.vector_count-vectors.result c.inputs.result c.vector_count-vectors.ensures.count inputs in
    let below : c.loop-number.number < row_count raw = omega (arith, c.loop-number-test.true, c.min-number-end.ensures, rows) in
    row_room raw c.loop-number.number c.outputs.result (length c.as_slice.result.now) c.args.width (length c.loop-number.entries) below outputs
    (ap length c.as_slice.ensures.value ∙ c.row_ends-waves.ensures.count) c.requires.width (c.loop-number.auto.entries ∙ c.requires.room)

pub loop-number-preserved : goal.loop-number-preserved
loop-number-preserved g c =
    let raw = g.N.CellNet.subcircuit c.args.net.now in
    let net = g.N.Network.circuit c.args.net.now in
    let number = c.loop-number.number in
    let lane = c.loop-number.number - c.args.block * 64 in
    let inputs : c.inputs.result ≡ role_count is_input raw.pins =
    c.inputs.ensures.count ∙ ap (λ (held : RawCell). role_count is_input held.pins) c.cell-cell.ensures.same in
    let outputs : c.outputs.result ≡ role_count is_output raw.pins =
    c.outputs.ensures.count ∙ ap (λ (held : RawCell). role_count is_output held.pins) c.cell-cell.ensures.same in
    let rows = rows_are raw c.vector_count-vectors.result c.inputs.result c.vector_count-vectors.ensures.count inputs in
    let below : c.loop-number.number < row_count raw = omega (arith, c.loop-number-test.true, c.min-number-end.ensures, rows) in
    let is : c.args.block * 64 + (c.loop-number.number - c.args.block * 64) ≡ c.loop-number.number = omega (arith, c.loop-number.auto.number) in
    let holds = subst (λ k. HoldsRow raw net k lane c.settle_rows.new.room) is
    (c.settle_rows.ensures.rows lane (omega (arith, c.loop-number-test.true, c.min-number-end.ensures))) in
    more_filled raw number c.args.column (number * c.outputs.result) c.args.width net c.loop-number.entries c.put.new.entries c.as_slice.result.now
    c.row_ends-waves.result.items c.loop-number.invariant c.requires.listed (c.row_ends-waves.ensures.ends number holds) c.row_ends-waves.ensures.count
    c.as_slice.ensures.value (ap (λ n. number * n) outputs) c.requires.width c.put.ensures.put c.put.ensures.others below

pub returns-clause-filled : goal.returns-clause-filled
returns-clause-filled g c =
    let raw = g.N.CellNet.subcircuit c.args.net.now in
    let inputs : c.inputs.result ≡ role_count is_input raw.pins =
    c.inputs.ensures.count ∙ ap (λ (held : RawCell). role_count is_input held.pins) c.cell-cell.ensures.same in
    let rows = rows_are raw c.vector_count-vectors.result c.inputs.result c.vector_count-vectors.ensures.count inputs in
    let end : c.loop-number.number ≡ min (row_count raw) ((c.args.block + 1) * 64) =
    omega (arith, c.loop-number.auto.number-end, c.loop-number-test.false, c.min-number-end.ensures, rows, c.requires.block) in
    subst (IsFilledTo raw c.loop-number.entries c.args.column) end c.loop-number.invariant
