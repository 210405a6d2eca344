use Rattle.std.proofs.Common.{subst}
use Rattle.std.proofs.lemmas.Result.{IfOk-weaker}
use Rattle.ca_view.specs.Linked.{place_in}
use Rattle.ca_static.specs.LastTable.{IsTableWhereStatic}
use Rattle.ca_view.specs.Places.{cell_number}
use Rattle.ca_sweep.proofs.CellLemmas.{fits_of_one}
use Rattle.ca_sweep.proofs.cells.table_for.Goals as goal

pub returns-in-Some : goal.returns-in-Some
returns-in-Some c = IfOk-weaker c.table_of.result _ _ (λ table is.
    fits_of_one c.args.chip.now.core (place_in c.args.chip.now.ranks) (cell_number c.args.chip.now.chip) c.args.number c.in-Some.u table
    c.linked.ensures.linked c.in-Some.ensures.0 c.in-Some.ensures.1 (subst (λ raw. IsTableWhereStatic raw table) c.cell.ensures is)) c.table_of.ensures
