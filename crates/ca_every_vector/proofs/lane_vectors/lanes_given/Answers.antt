use Rattle.std.proofs.Common.{◌≡◌, ◌<◌, ◌∙◌, true, false, length, None, get_or, sym, subst}
use Rattle.ca_flat.specs.Chip.{cell_at}
use Rattle.ca_planes.proofs.BitLemmas.{in_none}
use Rattle.ca_static.specs.LastTable.{IsTableWhereStatic}
use Rattle.ca_view.specs.Places.{cell_number}
use Rattle.ca_sweep.proofs.CellLemmas.{table_read}
use Rattle.ca_every_vector.proofs.lane_vectors.lanes_given.Goals as goal

pub lanes_by-requires-clause-table : goal.lanes_by-requires-clause-table
lanes_by-requires-clause-table c =
    let core = c.args.chip.now.core in
    let at : c.number.result ≡ cell_number c.args.chip.now.chip c.args.w = c.number.ensures in
    table_read (cell_at core c.args.w) c.args.tables.now c.number.result c.index-tables-number.result c.in-Some.table
    (subst (λ n. n < length c.args.tables.now) (sym at) (c.requires.tables.room c.args.w c.requires.placed))
    (subst (λ n. IsTableWhereStatic (cell_at core c.args.w) (get_or c.args.tables.now n None)) (sym at) (c.requires.tables.each c.args.w c.requires.placed))
    c.index-tables-number.is c.in-Some.is

pub returns-in-None-clause-given : goal.returns-in-None-clause-given
returns-in-None-clause-given c = λ lane low has. let e : false ≡ true = sym (in_none lane) ∙ has in absurd cc
