use Rattle.std.proofs.Common.{◌∙◌, sym}
use Rattle.ca_cell.proofs.OutputNameLemmas.{names_with, names_without}
use Rattle.ca_cell.proofs.raw.RawCell.output_names.Goals as goal
use Rattle.ca_cell.proofs.raw.RawCell.output_names.Goals.{then-is_output+in_ok-copy+in_ok-push}
use Rattle.ca_cell.proofs.raw.RawCell.output_names.Goals.{else-is_output}

pub loop-pin-preserved : goal.loop-pin-preserved
loop-pin-preserved c = elim c.if-is_output.branch [
  | then-is_output+in_ok-copy+in_ok-push w ↦ rw w.names-is (names_with c.as_slice-pin-items.result.now c.loop-pin.pin-index c.pin-item.result _ _ _
      c.loop-pin.invariant c.loop-pin-test.true c.pin-item.is (sym c.is_output.ensures ∙ w.if-is_output.true)
      (w.in_ok-copy.ensures).ok (w.in_ok-push.ensures).ok)
  | else-is_output w ↦ rw w.names-is (names_without c.as_slice-pin-items.result.now c.loop-pin.pin-index c.pin-item.result _
      c.loop-pin.invariant c.loop-pin-test.true c.pin-item.is (sym c.is_output.ensures ∙ w.if-is_output.false))
]
