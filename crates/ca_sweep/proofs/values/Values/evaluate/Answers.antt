use Rattle.std.proofs.Common.{◌≡◌, ◌<◌, length, None, get_or, sym, subst}
use Rattle.ca_flat.specs.Chip.{cell_at}
use Rattle.ca_flips.specs.Static.{EndsByLast}
use Rattle.ca_static.specs.LastTable.{last_at, IsLastTable, IsTableWhereStatic}
use Rattle.ca_view.specs.Places.{cell_number}
use Rattle.ca_sweep.proofs.CellLemmas.{table_read}
use Rattle.ca_sweep.proofs.values.Values.evaluate.Goals as goal

pub returns-in-Some-index-clause-evaluated : goal.returns-in-Some-index-clause-evaluated
returns-in-Some-index-clause-evaluated c = λ is.
    let core = c.args.chip.now.core in
    let placed = c.requires.placed in
    let at : c.number.result ≡ cell_number c.args.chip.now.chip c.args.w = c.number.ensures in
    let table : IsLastTable (cell_at core c.args.w) c.in-Some-index.table =
    table_read (cell_at core c.args.w) c.args.tables.now.items c.number.result c.index.result.now c.in-Some-index.table
    (subst (λ n. n < length c.args.tables.now.items) (sym at) (c.requires.tables.room c.args.w placed))
    (subst (λ n. IsTableWhereStatic (cell_at core c.args.w) (get_or c.args.tables.now.items n None)) (sym at) (c.requires.tables.each c.args.w placed))
    c.index.ensures c.in-Some-index.is in
    let number = c.in-Some.ensures in
    record {
      outputs = last_at c.in-Some-index.table c.in-Some.number;
      written = c.write.ensures;
      ends = λ output within. subst (λ v. EndsByLast (cell_at core c.args.w) v output (last_at c.in-Some-index.table c.in-Some.number output))
          number.vector_is (table.each c.in-Some.number output number.within within);
    }
