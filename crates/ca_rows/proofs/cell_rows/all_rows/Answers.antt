use Rattle.ca_rows.proofs.CellTableLemmas.{shown_more}
use Rattle.ca_rows.proofs.cell_rows.all_rows.Goals as goal

pub loop-place-preserved : goal.loop-place-preserved
loop-place-preserved c =
    shown_more c.args.matrix.now c.loop-place.place c.loop-place.rows.items c.push.new.self.items _ c.loop-place.invariant c.in_ok-rows.ensures.of_cell
    c.in_ok-push.ensures.items
