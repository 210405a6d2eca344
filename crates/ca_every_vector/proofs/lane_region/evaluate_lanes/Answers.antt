use Rattle.std.proofs.Common.{◌≡◌, ◌<◌, ◌∙◌, true, false, length, None, get_or, arith, ap, sym, subst}
use Rattle.ca_flat.specs.Chip.{cell_at, inputs_at}
use Rattle.ca_planes.specs.Plane.{has_lane, lane_at}
use Rattle.ca_static.specs.LastTable.{IsTableWhereStatic}
use Rattle.ca_view.specs.Linked.{place_in}
use Rattle.ca_view.specs.Places.{cell_number}
use Rattle.ca_sweep.proofs.CellLemmas.{table_read}
use Rattle.ca_every_vector.specs.code.Lanes.{AreVectorMasks}
use Rattle.ca_every_vector.proofs.LaneRegionLemmas.{covered_lane, given_out, masks_apart}
use Rattle.ca_every_vector.proofs.VectorLemmas.{row_count}
use Rattle.ca_every_vector.proofs.lane_region.evaluate_lanes.Goals as goal

pub write_ends-requires-clause-room : goal.write_ends-requires-clause-room
write_ends-requires-clause-room c =
    let few = c.linked.ensures.nets.few_pins c.args.w c.requires.placed.known in
    let rows = (row_count (inputs_at c.args.chip.now.core c.args.w) (omega (arith, few))).1 in
    let long = ap length c.as_slice.ensures.value ∙ c.find_masks-count.ensures.room in
    omega (arith, rows, long, c.find_masks-count.ensures.count)

pub write_ends-requires-clause-apart : goal.write_ends-requires-clause-apart
write_ends-requires-clause-apart c =
    masks_apart c.args.chip.now.core c.args.w c.args.values.now c.as_slice.result.now c.find_masks-count.result c.find_masks-count.ensures.count
    (subst (AreVectorMasks c.args.chip.now.core c.args.w c.args.values.now) (sym c.as_slice.ensures.value) c.find_masks-count.ensures.masks)

pub lanes_covered-requires : goal.lanes_covered-requires
lanes_covered-requires c =
    let few = c.linked.ensures.nets.few_pins c.args.w c.requires.placed.known in
    let rows = (row_count (inputs_at c.args.chip.now.core c.args.w) (omega (arith, few))).1 in
    let long = ap length c.as_slice-in-Some.ensures.value ∙ c.find_masks-count.ensures.room in
    record { room = omega (arith, rows, long, c.find_masks-count.ensures.count) }

pub returns-in-Some-clause-given : goal.returns-in-Some-clause-given
returns-in-Some-clause-given c = λ is lane low.
    let core = c.args.chip.now.core in
    let at : c.number.result ≡ cell_number c.args.chip.now.chip c.args.w = c.number.ensures in
    let slices = c.as_slice.ensures.value ∙ sym c.as_slice-in-Some.ensures.value in
    let none : has_lane c.except.result lane ≡ false = c.is_none.ensures.0 is lane low in
    let covered = c.lanes_covered.ensures lane low (covered_lane lane (has_lane c.lanes_covered.result lane) low (sym (c.except.ensures lane) ∙ none)) in
    given_out core (place_in c.args.chip.now.ranks) c.linked.ensures.linked.is_chip c.args.w c.requires.placed.known c.args.values.now c.write_ends.new.values c.write_ends.ensures.written
    c.in-Some.table c.as_slice-in-Some.result.now c.find_masks-count.result lane
    (table_read (cell_at core c.args.w) c.args.tables.now c.number.result c.index-tables-number.result c.in-Some.table
    (subst (λ n. n < length c.args.tables.now) (sym at) (c.requires.tables.room c.args.w c.requires.placed))
    (subst (λ n. IsTableWhereStatic (cell_at core c.args.w) (get_or c.args.tables.now n None)) (sym at) (c.requires.tables.each c.args.w c.requires.placed))
    c.index-tables-number.is c.in-Some.is)
    c.find_masks-count.ensures.count
    (subst (AreVectorMasks core c.args.w c.args.values.now) (sym c.as_slice-in-Some.ensures.value) c.find_masks-count.ensures.masks)
    (λ output number place within row less has. c.write_ends.ensures.ends output number place within row less (subst (λ masks. lane_at masks number place ≡ true) (sym slices) has))
    low covered
