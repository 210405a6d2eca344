use Rattle.std.proofs.lemmas.Option.{slice_get_within}
use Rattle.ca_linked.specs.Cells.{used_cells}
use Rattle.ca_linked.proofs.UsedLemmas.{has_place}
use Rattle.ca_linked.proofs.chip.Chip.cell_number.Goals as goal

pub unreachable-requires : goal.unreachable-requires
unreachable-requires c =
    let found = has_place (used_cells c.args.self.now) c.cell_place.result c.cell_place.ensures.used in
    (c.in-None.ensures {u = tt}).none found.0 found.1

pub returns-clause-within : goal.returns-clause-within
returns-clause-within c = slice_get_within (used_cells c.args.self.now) c.in-Some.number c.cell_place.result ((c.in-Some.ensures {u = tt}).some)
