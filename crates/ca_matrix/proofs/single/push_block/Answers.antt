use Rattle.std.proofs.Common.{◌≡◌, ◌+◌, ◌-◌, ◌*◌, ◌/◌, ◌%◌, ◌^◌, ◌<◌, ◌∙◌, length, min, sym, ap, subst, arith}
use Rattle.ca_cell.specs.declared.raw.RawCell.{RawCell}
use Rattle.ca_cell.specs.Raw.{is_input, is_output, role_count, circuit_of}
use Rattle.ca_cell.specs.declared.row.Row.{Row}
use Rattle.ca_cell.specs.List.{faulty_of}
use Rattle.ca_cell.specs.Exposes.{IsExposingRow}
use Rattle.ca_row_block.specs.Rows.{HoldsRow}
use Rattle.ca_matrix.specs.code.Filled.{row_at, row_count}
use Rattle.ca_matrix.specs.code.Single.{AreFound, AreRowEnds, row_number}
use Rattle.ca_matrix.proofs.BlockLemmas.{rows_are, number_of_row, last_within, first_within}
use Rattle.ca_matrix.proofs.SingleLemmas.{found_before, found_more, differing_exposes, exposing_differs}
use Rattle.ca_matrix.proofs.single.push_block.Goals as goal

pub push_if-requires : goal.push_if-requires
push_if-requires c =
    let raw = c.args.cell.now in
    let number = c.loop-number.number in
    let vectors : c.vector_count-vectors.result ≡ 2 ^ role_count is_input c.args.cell.now.pins = c.vector_count-vectors.ensures.count ∙ ap (λ n. 2 ^ n) c.inputs.ensures.count in
    let row_is : c.row_at.result ≡ row_at (2 ^ role_count is_input c.args.cell.now.pins) c.loop-number.number = c.row_at.ensures ∙ ap (λ n. row_at n number) vectors in
    found_before raw c.args.overlay.now.defect number c.loop-number.rows c.row_at.result c.loop-number.invariant
    (ap (row_number raw) row_is ∙ number_of_row raw number)
    (subst (λ (row : Row). row.last < 2 ^ role_count is_input c.args.cell.now.pins) (sym row_is) (last_within raw number))

pub loop-number-preserved : goal.loop-number-preserved
loop-number-preserved c =
    let raw = c.args.cell.now in
    let defect = c.args.overlay.now.defect in
    let number = c.loop-number.number in
    let lane = c.loop-number.number - c.args.block * 64 in
    let vectors : c.vector_count-vectors.result ≡ 2 ^ role_count is_input c.args.cell.now.pins = c.vector_count-vectors.ensures.count ∙ ap (λ n. 2 ^ n) c.inputs.ensures.count in
    let rows = rows_are raw c.vector_count-vectors.result c.inputs.result c.vector_count-vectors.ensures.count c.inputs.ensures.count in
    let below : c.loop-number.number < row_count c.args.cell.now = omega (arith, c.loop-number-test.true, c.min-number-end.ensures, rows) in
    let row_is : c.row_at.result ≡ row_at (2 ^ role_count is_input c.args.cell.now.pins) c.loop-number.number = c.row_at.ensures ∙ ap (λ n. row_at n number) vectors in
    let is : c.args.block * 64 + (c.loop-number.number - c.args.block * 64) ≡ c.loop-number.number = omega (arith, c.loop-number.auto.number) in
    let good_holds = subst (λ k. HoldsRow raw (circuit_of raw) k lane c.settle_rows.new.room) is
    (c.settle_rows.ensures.rows lane (omega (arith, c.loop-number-test.true, c.min-number-end.ensures))) in
    let faulty_holds = subst (λ k. HoldsRow c.args.overlay.now.raw (faulty_of c.args.overlay.now.raw c.args.overlay.now.defect) k lane c.settle_rows-2.new.room) is
    (c.settle_rows-2.ensures.rows lane (omega (arith, c.loop-number-test.true, c.min-number-end.ensures))) in
    let first = c.loop-number.number / 2 ^ role_count is_input c.args.cell.now.pins in
    let last = c.loop-number.number % 2 ^ role_count is_input c.args.cell.now.pins in
    let good = c.as_slice.result.now in
    let faulty = c.as_slice-in-loop-number.result.now in
    let good_ends = subst (AreRowEnds raw (circuit_of raw) first last) (sym c.as_slice.ensures.value) (c.row_ends-waves.ensures.ends number good_holds) in
    let faulty_ends = subst (λ (r : RawCell).
    AreRowEnds r (faulty_of r c.args.overlay.now.defect) (c.loop-number.number / 2 ^ role_count is_input r.pins) (c.loop-number.number % 2 ^ role_count is_input r.pins)
    c.as_slice-in-loop-number.result.now) c.requires.cell
    (subst (AreRowEnds c.args.overlay.now.raw (faulty_of c.args.overlay.now.raw c.args.overlay.now.defect)
    (c.loop-number.number / 2 ^ role_count is_input c.args.overlay.now.raw.pins) (c.loop-number.number % 2 ^ role_count is_input c.args.overlay.now.raw.pins))
    (sym c.as_slice-in-loop-number.ensures.value) (c.row_ends-others.ensures.ends number faulty_holds)) in
    let good_count : length c.as_slice.result.now ≡ role_count is_output c.args.cell.now.pins =
    ap (λ ws. length ws) c.as_slice.ensures.value ∙ c.row_ends-waves.ensures.count in
    let faulty_count : length c.as_slice-in-loop-number.result.now ≡ role_count is_output c.args.cell.now.pins =
    ap (λ ws. length ws) c.as_slice-in-loop-number.ensures.value ∙ c.row_ends-others.ensures.count
    ∙ ap (λ (r : RawCell). role_count is_output r.pins) c.requires.cell in
    found_more raw defect number c.loop-number.rows c.push_if.new.rows c.row_at.result c.differ-passed.result c.loop-number.invariant
    (ap (row_number raw) row_is ∙ number_of_row raw number)
    (subst (λ (row : Row). row.last < 2 ^ role_count is_input c.args.cell.now.pins) (sym row_is) (last_within raw number)) (
      λ yes. subst (IsExposingRow raw defect) (sym row_is)
          (differing_exposes raw defect first last good faulty good_ends faulty_ends good_count faulty_count (first_within raw number below) (last_within raw number)
          (c.differ-passed.ensures.0 yes)),
      λ exposes. c.differ-passed.ensures.1 (exposing_differs raw defect first last good faulty good_ends faulty_ends good_count faulty_count
          (subst (IsExposingRow raw defect) row_is exposes)),
    ) (c.in_ok-push_if.ensures {u = tt})

pub returns-clause-rows : goal.returns-clause-rows
returns-clause-rows c =
    let raw = c.args.cell.now in
    let rows = rows_are raw c.vector_count-vectors.result c.inputs.result c.vector_count-vectors.ensures.count c.inputs.ensures.count in
    let end : c.loop-number.number ≡ min (row_count c.args.cell.now) ((c.args.block + 1) * 64) =
    omega (arith, c.loop-number.auto.number-end, c.loop-number-test.false, c.min-number-end.ensures, rows, c.requires.block) in
    subst (λ k. AreFound raw c.args.overlay.now.defect k c.loop-number.rows) end c.loop-number.invariant
