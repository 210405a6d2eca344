use Rattle.std.proofs.Common.{◌≡◌, ◌<◌, length, None, get_or, sym, subst}
use Rattle.ca_net.specs.State.{value_at}
use Rattle.ca_flat.specs.Chip.{cell_at}
use Rattle.ca_static.specs.LastTable.{IsTableWhereStatic}
use Rattle.ca_view.specs.Places.{cell_number}
use Rattle.ca_sweep.proofs.CellLemmas.{table_read}
use Rattle.ca_every_vector.proofs.GivenLemmas.{given_by}
use Rattle.ca_every_vector.proofs.given.is_given.Goals as goal

pub returns-in-Some-tables : goal.returns-in-Some-tables
returns-in-Some-tables c = λ is.
    let core = c.args.chip.now.core in
    let at : c.number.result ≡ cell_number c.args.chip.now.chip c.args.w = c.number.ensures in
    given_by core c.args.w (value_at c.args.values.now) c.in-Some.number c.in-Some.ensures c.in-Some-tables.table
    (table_read (cell_at core c.args.w) c.args.tables.now c.number.result c.index-tables-number.result c.in-Some-tables.table
    (subst (λ n. n < length c.args.tables.now) (sym at) (c.requires.tables.room c.args.w c.requires.placed))
    (subst (λ n. IsTableWhereStatic (cell_at core c.args.w) (get_or c.args.tables.now n None)) (sym at) (c.requires.tables.each c.args.w c.requires.placed))
    c.index-tables-number.is c.in-Some-tables.is)
    (c.has_entry.ensures is)
