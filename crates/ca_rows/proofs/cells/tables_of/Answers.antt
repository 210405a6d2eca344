use Rattle.std.proofs.Common.{◌∙◌, arith}
use Rattle.ca_view.proofs.RankLemmas.{listed_is_library}
use Rattle.ca_rows.proofs.ChipTableLemmas.{cell_read_at, has_table, found_before, found_now}
use Rattle.ca_rows.proofs.cells.tables_of.Goals as goal
use Rattle.ca_rows.proofs.cells.tables_of.Goals.{then-is_none+in_ok-new+in-Some-1}
use Rattle.ca_rows.proofs.cells.tables_of.Goals.{then-is_none+in_ok-new+in-None-1, else-is_none}

pub library_place-place-requires : goal.library_place-place-requires
library_place-place-requires c = listed_is_library c.args.chip.now c.loop-k.k c.instance-u.result.0 c.instance-u.ensures

pub loop-k-preserved : goal.loop-k-preserved
loop-k-preserved c = elim c.if-is_none.branch [
  | then-is_none+in_ok-new+in-Some-1 w ↦
      rw w.tables-is
      (found_now c.args.chip.now c.loop-k.k c.instance-u.result.0 c.library_place-place.result c.loop-k.tables.items c.loop-k.invariant c.instance-u.ensures
      c.library_place-place.ensures.of w.in_ok-new.field-0
      (w.in_ok-new.ensures ∙ cell_read_at c.args.chip.now c.instance-u.result.0 c.library_place-place.result w.cell_of.result.now c.library_place-place.ensures.of w.cell_of.ensures)
      c.library_place-place.ensures.within)
  | then-is_none+in_ok-new+in-None-1 w ↦
      rw w.tables-is
      (found_now c.args.chip.now c.loop-k.k c.instance-u.result.0 c.library_place-place.result c.loop-k.tables.items c.loop-k.invariant c.instance-u.ensures
      c.library_place-place.ensures.of w.in_ok-new.field-0
      (w.in_ok-new.ensures ∙ cell_read_at c.args.chip.now c.instance-u.result.0 c.library_place-place.result w.cell_of.result.now c.library_place-place.ensures.of w.cell_of.ensures)
      c.library_place-place.ensures.within)
  | else-is_none w ↦
      rw w.tables-is
      (found_before c.args.chip.now c.loop-k.k c.instance-u.result.0 c.library_place-place.result c.loop-k.tables.items c.loop-k.invariant c.instance-u.ensures
      c.library_place-place.ensures.of
      (has_table c.loop-k.tables.items c.library_place-place.result c.index.result.now
      (let room = c.loop-k.invariant.are.room in let within = c.library_place-place.ensures.within in omega arith) c.index.ensures w.if-is_none.ensures))
]
