use Rattle.std.proofs.Common.{refl, sym, subst}
use Rattle.std.specs.Prelude.{IsSome, IsNone}
use Rattle.ca_cell.specs.declared.overlay.Overlay.{Overlay}
use Rattle.ca_cell.specs.List.{faulty_of}
use Rattle.ca_matrix.specs.code.Rooms.{HasRoomFor}
use Rattle.ca_matrix.proofs.single.rows_of.Goals as goal

pub rows_in-rows-requires-clause-faulty : goal.rows_in-rows-requires-clause-faulty
rows_in-rows-requires-clause-faulty c =
    subst (λ (overlay : Overlay). HasRoomFor (faulty_of overlay.raw overlay.defect) c.in_ok-rooms.rooms.open_cell) (sym c.new-overlay.ensures)
    (c.in_ok-rooms.ensures.open_cell c.args.defect (subst IsSome c.in-Some.ensures refl))

pub rows_in-rows-requires-in-None-clause-faulty : goal.rows_in-rows-requires-in-None-clause-faulty
rows_in-rows-requires-in-None-clause-faulty c =
    subst (λ (overlay : Overlay). HasRoomFor (faulty_of overlay.raw overlay.defect) c.in_ok-rooms.rooms.shorted) (sym c.new-overlay.ensures)
    (c.in_ok-rooms.ensures.shorted c.args.defect (subst IsNone c.in-None.ensures refl))
